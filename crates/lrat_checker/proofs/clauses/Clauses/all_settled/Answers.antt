-- All numbers are looked at: those below the end of the chunks, the greatest one, and those in the map.
use Rattle.std.proofs.Common.{◌≡◌, ◌+◌, ◌<◌, ℕ, true, false, nat_eq, length, inl, inr, sym, ◌∙◌, ap, arith}
use Rattle.std.proofs.lemmas.Bool.{cases_eq, cases_lt}
use Rattle.std.specs.FinMap as finmap
use Rattle.std.specs.HashMap.{get}
use Rattle.std.specs.List.{list_all}
use Rattle.std.specs.Option.{option_copied}
use Rattle.lrat_rules.specs.Addition.{is_settled}
use Rattle.lrat_rules.specs.FalseLiterals.{set_of}
use Rattle.lrat_rules.specs.State.{clause_at}
use Rattle.lrat_checker.specs.Clauses.{near_at, stands_at, live_below}
use Rattle.lrat_checker.specs.Walk.{settles, settles_at}
use Rattle.lrat_checker.proofs.Chunks.{near_beyond}
use Rattle.lrat_checker.proofs.Stored.{stands_live, near_none}
use Rattle.lrat_checker.proofs.Walks.{walk_passes, walk_fails, both_pass, near_open, far_open, decided}
use Rattle.lrat_checker.proofs.clauses.Clauses.all_settled.Goals as goal

pub returns-then-not-near_settled : goal.returns-then-not-near_settled
returns-then-not-near_settled c =
    let n = set_of c.args.chain.now in
    let near = near_at c.self.inside.chunks.items in
    let far = get nat_eq c.self.inside.far in
    let live = live_below (stands_at near far) (c.self.inside.top + 1) in
    let open_clause = c.near_settled.ensures.open c.if-not-near_settled.true in
    let id = open_clause.0 in
    let stands : clause_at live id ≡ stands_at near far id = stands_live
    (stands_at near far) c.self.inside.top c.self.invariant.beyond id in
    let here : settles_at n c.args.pivot c.args.groups.now id (near id)
    ≡ false = ap (λ l. settles_at n c.args.pivot c.args.groups.now id (near_at l id)) (sym c.as_slice-chunks.ensures.value)
    ∙ open_clause.1 in
    rw (← c.self.view_is) (walk_fails live n c.args.pivot c.args.groups.now id (ap (settles_at n c.args.pivot c.args.groups.now id) stands
    ∙ near_open live n c.args.pivot c.args.groups.now id (near id) (far id) here))

pub returns-then-not-settles_place : goal.returns-then-not-settles_place
returns-then-not-settles_place c =
    let n = set_of c.args.chain.now in
    let near = near_at c.self.inside.chunks.items in
    let far = get nat_eq c.self.inside.far in
    let id = c.self.inside.top in
    let live = live_below (stands_at near far) (id + 1) in
    let stands : clause_at live id ≡ stands_at near far id = stands_live (stands_at near far) id c.self.invariant.beyond id in
    let found : option_copied c.near_clause.result ≡ near id = c.near_clause.ensures
    ∙ ap (λ l. near_at l id) c.as_slice-chunks.ensures.value in
    let here : settles_at n c.args.pivot c.args.groups.now id (near id) ≡ false =
    ap (settles_at n c.args.pivot c.args.groups.now id) (sym found) ∙ sym c.settles_place.ensures ∙ c.if-not-settles_place.true in
    rw (← c.self.view_is) (walk_fails live n c.args.pivot c.args.groups.now id (ap (settles_at n c.args.pivot c.args.groups.now id) stands
    ∙ near_open live n c.args.pivot c.args.groups.now id (near id) (far id) here))

pub returns : goal.returns
returns c =
    let n = set_of c.args.chain.now in
    let pivot = c.args.pivot in
    let groups = c.args.groups.now in
    let chunks = c.self.inside.chunks.items in
    let near = near_at chunks in
    let far = get nat_eq c.self.inside.far in
    let top = c.self.inside.top in
    let live = live_below (stands_at near far) (top + 1) in
    let stands : (id : ℕ) → clause_at live id ≡ stands_at near far id = stands_live (stands_at near far) top c.self.invariant.beyond in
    let found : option_copied c.near_clause.result ≡ near top = c.near_clause.ensures
    ∙ ap (λ l. near_at l top) c.as_slice-chunks.ensures.value in
    let at_top : settles_at n pivot groups top (near top) ≡ true = ap (settles_at n pivot groups top) (sym found)
    ∙ sym c.settles_place.ensures ∙ c.if-not-settles_place.false in
    let in_chunks : (id : ℕ) → id < c.saturating_mul-places.result → settles_at n pivot groups id (near id) ≡ true =
    λ id lt. ap (λ l. settles_at n pivot groups id (near_at l id)) (sym c.as_slice-chunks.ensures.value)
    ∙ c.near_settled.ensures.settled c.if-not-near_settled.false id lt in
    let near_settles : (id : ℕ) → settles_at n pivot groups id (near id) ≡ true = λ id.
    elim (cases_lt id c.saturating_mul-places.result) [
      | inl lt ↦ in_chunks id lt
      | inr le ↦ elim (cases_eq id top) [
        | inl same ↦ ap (λ k. settles_at n pivot groups k (near k)) same ∙ at_top
        | inr other ↦ elim (cases_lt top id) [
          | inl beyond ↦ ap (settles_at n pivot groups id) (near_none near far top id c.self.invariant beyond)
          | inr within ↦ ap (settles_at n pivot groups id) (near_beyond chunks id
              (omega (arith, le, within, other, c.saturating_mul-places.ensures, ap length c.as_slice-chunks.ensures.value)))
        ]
      ]
    ] in
    rw (← c.self.view_is) (decided c.far_settled.result (list_all (is_settled live n pivot groups) (finmap.keys live))
    (λ passes. walk_passes live n pivot groups (λ id. ap (settles_at n pivot groups id) (stands id)
    ∙ both_pass (settles n pivot groups) id (near id) (far id) (near_settles id) (c.far_settled.ensures.settled passes id)))
    (λ fails. let open_clause = c.far_settled.ensures.open fails in
    walk_fails live n pivot groups open_clause.0 (ap (settles_at n pivot groups open_clause.0) (stands open_clause.0)
    ∙ far_open live n pivot groups open_clause.0 (near open_clause.0) (far open_clause.0)
    (c.self.invariant.apart open_clause.0) open_clause.1)))
