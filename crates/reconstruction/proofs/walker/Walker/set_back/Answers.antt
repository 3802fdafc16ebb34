-- What is left to show of `set_back`.
use Rattle.std.proofs.Common.{◌≡◌, ◌∙◌, ◌<◌, ◌≤◌, ℕ, Bool, true, false, List, length, sym, ap, subst, arith, refl}
use Rattle.std.specs.Prelude.{Contains}
use Rattle.cnf_base.specs.Truth.{assignment_of}
use Rattle.reconstruction.specs.declared.entries.Entry.{Entry}
use Rattle.reconstruction.specs.declared.ranks.Rank.{Rank}
use Rattle.reconstruction.specs.Cells.{cell_value}
use Rattle.reconstruction.specs.Entries.{variables_of}
use Rattle.reconstruction.specs.Ranks.{AreRising, rank_of}
use Rattle.reconstruction.specs.SetsBack.{is_among}
use Rattle.reconstruction.specs.Way.{AreInner, IsDead, live}
use Rattle.reconstruction.proofs.Ranked.{among_each}
use Rattle.reconstruction.proofs.OneWalk.{IsRanking, among_ranked, asks, filled_beside, leads_same, none_set, walked_set}
use Rattle.reconstruction.proofs.Ways.{all_inner, are_live}
use Rattle.reconstruction.proofs.walker.Walker.set_back.Goals as goal

pub rank_all-requires-clause-variables : goal.rank_all-requires-clause-variables
rank_all-requires-clause-variables c entry there =
    let it = c.requires.variables entry there in
    let same : length c.as_slice.result.now ≡ length c.args.values.now = ap length c.as_slice.ensures in
    (it.0, omega (arith, it.1, same, c.in_ok-ready.ensures.ready.places))

pub fill-requires-then-not-found : goal.fill-requires-then-not-found
fill-requires-then-not-found c entry there =
    let it = c.requires.variables entry there in
    (it.0, omega (arith, it.1, c.fill.ensures.one_each))

-- the ranks, as they are read
ranking : (ranks read : List Rank) (round : ℕ) (set : List Entry) → read ≡ ranks
    → ((entry : Entry) → Contains set entry → 0 < entry.variable)
    → ((v : ℕ) → 0 < v → is_among (variables_of set) v ≡ true → 0 < rank_of ranks round v)
    → ((v : ℕ) → 0 < v → is_among (variables_of set) v ≡ false → rank_of ranks round v ≡ 0)
    → IsRanking (rank_of read round) (variables_of set)
ranking ranks read round set same some ranked others =
    subst (λ (l : List Rank). IsRanking (rank_of l round) (variables_of set)) (sym same) (record {
      some = among_each (λ v. 0 < v) set some;
      ranked = ranked;
      others = others;
    })

pub returns-then-not-found-clause-set : goal.returns-then-not-found-clause-set
returns-then-not-found-clause-set c done =
    let xs = variables_of c.args.set.now in
    let round = c.ready.new.self.round in
    let mid = assignment_of c.fill.new.values in
    let are = ranking c.rank_all.new.ranks.items c.deref.result.now round c.args.set.now c.deref.ensures.value
    (λ entry there. (c.requires.variables entry there).0) c.rank_all.ensures.ranked c.rank_all.ensures.others in
    let rising : AreRising (rank_of c.deref.result.now round) xs =
    subst (λ (l : List Rank). AreRising (rank_of l round) xs) (sym c.deref.ensures.value) (c.if-not-rank_all.ensures.rising refl) in
    let dead : IsDead c.args.cells.now (rank_of c.deref.result.now round) mid c.args.key =
    subst (λ (l : List Bool). IsDead c.args.cells.now (rank_of c.deref.result.now round) (assignment_of l) c.args.key)
    c.as_slice-2.ensures (c.in_ok-found.ensures.none c.if-not-found.true) in
    none_set c.args.cells.now c.requires.ordered c.args.key (rank_of c.deref.result.now round) xs are rising
    (assignment_of c.args.values.now) mid (assignment_of c.fill-then-not-found.new.values)
    (filled_beside xs false (assignment_of c.args.values.now) mid c.fill.ensures.filled) dead c.fill-then-not-found.ensures.filled

pub raise-requires-clause-inner : goal.raise-requires-clause-inner
raise-requires-clause-inner c =
    let round = c.ready.new.self.round in
    subst (λ (l : List ℕ). AreInner c.args.cells.now l) (sym c.deref-4.ensures.value)
    (all_inner c.args.cells.now c.requires.ordered (rank_of c.deref.result.now round) (assignment_of c.as_slice-2.result.now)
    (live c.find_way.new.marks.items round) (are_live c.find_way.new.marks.items round) c.args.key c.find_way.new.path.items 1
    c.requires.within (c.in_ok-found.ensures.found c.if-not-found.false))

pub raise-requires-clause-within : goal.raise-requires-clause-within
raise-requires-clause-within c v above more =
    let xs = variables_of c.args.set.now in
    let round = c.ready.new.self.round in
    let are = ranking c.rank_all.new.ranks.items c.deref-2.result.now round c.args.set.now c.deref-2.ensures.value
    (λ entry there. (c.requires.variables entry there).0) c.rank_all.ensures.ranked c.rank_all.ensures.others in
    let inside : v ≤ length c.args.values.now = among_each (λ x. x ≤ length c.args.values.now) c.args.set.now
    (λ entry there. (c.requires.variables entry there).1) v (among_ranked (rank_of c.deref-2.result.now round) xs are v above more) in
    omega (arith, inside, c.fill.ensures.one_each)

pub returns-clause-set : goal.returns-clause-set
returns-clause-set c done =
    let xs = variables_of c.args.set.now in
    let round = c.ready.new.self.round in
    let mid = assignment_of c.fill.new.values in
    let are = ranking c.rank_all.new.ranks.items c.deref-2.result.now round c.args.set.now c.deref-2.ensures.value
    (λ entry there. (c.requires.variables entry there).0) c.rank_all.ensures.ranked c.rank_all.ensures.others in
    let rising : AreRising (rank_of c.deref-2.result.now round) xs =
    subst (λ (l : List Rank). AreRising (rank_of l round) xs) (sym c.deref-2.ensures.value) (c.if-not-rank_all.ensures.rising refl) in
    let way = leads_same c.args.cells.now round c.args.key c.deref.result.now c.deref-2.result.now c.as_slice-2.result.now c.fill.new.values
    c.find_way.new.marks.items c.deref-3.result.now c.find_way.new.path.items c.deref-4.result.now
    (c.deref-2.ensures.value ∙ sym c.deref.ensures.value) (sym c.as_slice-2.ensures) c.deref-3.ensures.value c.deref-4.ensures.value
    (c.in_ok-found.ensures.found c.if-not-found.false) in
    walked_set (λ b. cell_value c.args.cells.now b c.args.key) (asks c.args.cells.now c.requires.ordered c.args.key)
    (rank_of c.deref-2.result.now round) xs are rising (assignment_of c.args.values.now) mid (assignment_of c.raise.new.values)
    (filled_beside xs false (assignment_of c.args.values.now) mid c.fill.ensures.filled)
    (c.raise.ensures.walked done c.args.key c.requires.within way)
