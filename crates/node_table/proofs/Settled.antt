-- What deleting the retired clauses leaves: the nodes are tied to the live clauses that are left, and the bytes are a proof
-- of these.
use Rattle.std.proofs.Common.{◌≡◌, ◌≢◌, ◌<◌, ◌≤◌, ◌&&◌, ◌||◌, ◌∙◌, ℕ, Bool, ℤ, List, [], ◌∷◌, None, Some, Contains, is_some, true, false}
use Rattle.std.proofs.Common.{cond, refl, sym, ap, arith, inl, inr, eq-eqb, ne_eqb}
use Rattle.std.specs.Prelude.{nat_eq, nat_lt, not}
use Rattle.std.specs.Cmp.{unsigned_tied, nat_eq_equiv}
use Rattle.std.specs.List.{IsDistinct, AllByRecursion}
use Rattle.std.specs.Set.{is_member}
use Rattle.std.specs.FinMap as map
use Rattle.std.proofs.lemmas.Bool.{and_from, cases_eq, lt-ltb, or_left, or_right}
use Rattle.std.proofs.lemmas.Cmp.{nat_cmp_total}
use Rattle.std.proofs.lemmas.Map.Views.{list_any-from_Contains, Contains-from_any, exact_unsigned_eq}
use Rattle.cnf_base.specs.ProofText.{given_if}
use Rattle.lrat_rules.specs.State.{State, Live, clause_at, without_clauses}
use Rattle.lrat_rules.specs.Derivation.{are_added}
use Rattle.node_table.specs.declared.node.Branch.{Branch}
use Rattle.node_table.specs.Diagram.{Graph, branch_at}
use Rattle.node_table.specs.Defined.{IsDefined, clause_named, defs_of, hd_first, is_defined_by, is_false_node, is_given, is_true_node}
use Rattle.node_table.specs.Defined.{ld_first, lu_first}
use Rattle.node_table.specs.Tied.{IsTied, AreRetired}
use Rattle.node_table.proofs.Retired.{not_member}

removed_at : (live : Live) (id other : ℕ) → clause_at (map.remove live id) other ≡ cond (nat_eq other id) None (clause_at live other)
removed_at live id other = map.get-remove nat_cmp_total live id other
    ∙ ap (λ b. cond b None (clause_at live other)) (unsigned_tied other id)

removed_other : (live : Live) (id other : ℕ) → other ≢ id → clause_at (map.remove live id) other ≡ clause_at live other
removed_other live id other differ = removed_at live id other ∙ ap (λ b. cond b None (clause_at live other)) (ne_eqb other id differ)

removed_here : (live : Live) (id other : ℕ) → other ≡ id → clause_at (map.remove live id) other ≡ None
removed_here live id other same = removed_at live id other ∙ ap (λ b. cond b None (clause_at live other)) (eq-eqb other id same)

-- what isn't among the numbers stays
pub stays_without : (live : Live) (ids : List ℕ) (other : ℕ) → is_member nat_eq ids other ≡ false
    → clause_at (without_clauses live ids) other ≡ clause_at live other
stays_without live [] other none = refl
stays_without live (id ∷ ids) other none =
    elim (cases_eq other id) [
      | inl same ↦ absurd (let e : true ≡ false = sym (or_left (nat_eq other id) (is_member nat_eq ids other) (eq-eqb other id same))
          ∙ none in cc)
      | inr differ ↦ stays_without (map.remove live id) ids other (sym (ap (λ b. b || is_member nat_eq ids other) (ne_eqb other id differ))
          ∙ none) ∙ removed_other live id other differ
    ]

-- what isn't live doesn't come back
none_without : (live : Live) (ids : List ℕ) (other : ℕ) → clause_at live other ≡ None → clause_at (without_clauses live ids) other ≡ None
none_without live [] other none = none
none_without live (id ∷ ids) other none =
    none_without (map.remove live id) ids other (elim (cases_eq other id) [
      | inl same ↦ removed_here live id other same
      | inr differ ↦ removed_other live id other differ ∙ none
    ])

pub gone_without : (live : Live) (ids : List ℕ) (other : ℕ) → is_member nat_eq ids other ≡ true → clause_at (without_clauses live ids) other
    ≡ None
gone_without live [] other is = absurd (let e : false ≡ true = is in cc)
gone_without live (id ∷ ids) other is =
    elim (cases_eq other id) [
      | inl same ↦ none_without (map.remove live id) ids other (removed_here live id other same)
      | inr differ ↦ gone_without (map.remove live id) ids other (sym (ap (λ b. b || is_member nat_eq ids other) (ne_eqb other id differ))
          ∙ is)
    ]

none_equal : (id : ℕ) (ids : List ℕ) → AllByRecursion (λ other. nat_eq id other ≡ false) ids → is_member nat_eq ids id ≡ false
none_equal id [] all = refl
none_equal id (other ∷ ids) all = ap (λ b. b || is_member nat_eq ids id) all.0 ∙ none_equal id ids all.1

-- distinct numbers of live clauses above this one may be deleted
pub may_delete : (count : ℕ) (live : Live) (ids : List ℕ) → IsDistinct nat_eq ids
    → ((id : ℕ) → is_member nat_eq ids id ≡ true → (count < id) × (is_some (clause_at live id) ≡ true))
    → are_added count live ids ≡ true
unfolding IsDistinct
may_delete count live [] once each = refl
may_delete count live (id ∷ ids) once each =
    let own = each id (or_left (nat_eq id id) (is_member nat_eq ids id) (eq-eqb id id refl)) in
    let alone : is_member nat_eq ids id ≡ false = none_equal id ids once.0 in
    and_from (nat_lt count id && is_some (clause_at live id)) (are_added count (map.remove live id) ids)
    (and_from (nat_lt count id) (is_some (clause_at live id)) (lt-ltb count id own.0) own.1)
    (may_delete count (map.remove live id) ids once.1 (λ other is.
    let there = each other (or_right (nat_eq other id) (is_member nat_eq ids other) is) in
    let differ : other ≢ id = λ same. (let e : true ≡ false = sym is ∙ ap (is_member nat_eq ids) same ∙ alone in cc) in
    (there.0, ap is_some (removed_other live id other differ) ∙ there.1)))

module _ (graph : Graph) (live : Live) (inputs : ℕ) (retired : List ℕ) (are : AreRetired graph live inputs retired) where
  pub retired_added : (count : ℕ) → count ≤ inputs → are_added count live retired ≡ true
  retired_added count few =
      may_delete count live retired are.once (λ id is.
      let own = are.each id (Contains-from_any exact_unsigned_eq id retired is) in
      (omega (arith, few, own.above), own.stands))

pub settled_gone : (live : Live) (retired : List ℕ) (id : ℕ) → Contains retired id → clause_at (without_clauses live retired) id ≡ None
settled_gone live retired id among = gone_without live retired id (list_any-from_Contains nat_eq_equiv id retired among)

-- A node whose clauses stay under their numbers is still defined.
module _ (graph : Graph) (old new : Live) (b : Branch) (stay : (id : ℕ) → is_defined_by (defs_of b) id ≡ true → clause_at new id
    ≡ clause_at old id) where
  stays_given : (given : Bool) (own : ℕ) → (is_given (given_if given own) own ≡ true → is_defined_by (defs_of b) own ≡ true)
      → clause_named new (given_if given own) ≡ clause_named old (given_if given own)
  stays_given true own by = stay own (by (eq-eqb own own refl))
  stays_given false own by = refl

  pub IsDefined-stays : IsDefined old graph b → IsDefined new graph b
  IsDefined-stays defined =
      let one : ℕ → Bool = λ id. is_given (defs_of b).hu id in
      let two : ℕ → Bool = λ id. is_given (defs_of b).lu id in
      let three : ℕ → Bool = λ id. is_given (defs_of b).hd id in
      let four : ℕ → Bool = λ id. is_given (defs_of b).ld id in
      record {
        hu = stays_given (not (is_false_node b.high)) b.first (λ is. or_left ((one b.first || two b.first)
            || three b.first) (four b.first) (or_left (one b.first
            || two b.first) (three b.first) (or_left (one b.first) (two b.first) is))) ∙ defined.hu;
        lu = (let n = lu_first b.high b.first in
            stays_given (not (is_false_node b.low)) n (λ is. or_left ((one n || two n)
            || three n) (four n) (or_left (one n || two n) (three n) (or_right (one n) (two n) is)))) ∙ defined.lu;
        hd = (let n = hd_first b.high b.low b.first in
            stays_given (not (is_true_node b.high)) n (λ is. or_left ((one n || two n)
            || three n) (four n) (or_right (one n || two n) (three n) is))) ∙ defined.hd;
        ld = (let n = ld_first b.high b.low b.first in
            stays_given (not (is_true_node b.low)) n (λ is. or_right ((one n || two n) || three n) (four n) is)) ∙ defined.ld;
      }

module _ (graph : Graph) (state : State) (inputs : ℕ) (retired : List ℕ) (tied : IsTied graph state)
    (are : AreRetired graph state.live inputs retired) where
  abbrev pub settled : State
  settled = record { live = without_clauses state.live retired; top = state.top }

  pub settled_stays : (id : ℕ) → (Contains retired id → ⊥) → clause_at settled.live id ≡ clause_at state.live id
  settled_stays id out = stays_without state.live retired id (not_member retired id out)

  -- what is still live was live
  pub settled_was : (id : ℕ) (clause : List ℤ) → clause_at settled.live id ≡ Some clause → clause_at state.live id ≡ Some clause
  settled_was id clause is =
      elim (is_member nat_eq retired id) as (λ b. is_member nat_eq retired id ≡ b → clause_at state.live id ≡ Some clause) [
        | true ↦ λ among. absurd (let none : None ≡ Some clause = sym (gone_without state.live retired id among) ∙ is in cc)
        | false ↦ λ out. sym (stays_without state.live retired id out) ∙ is
      ] refl

  settled_defined : (key : ℕ) (b : Branch) → branch_at graph key ≡ Some b → IsDefined settled.live graph b
  settled_defined key b at = IsDefined-stays graph state.live settled.live b
      (λ id own. settled_stays id (λ among. (let e : false ≡ true = sym ((are.each id among).defines_none key b at) ∙ own in cc)))
      (tied.defined key b at)

  pub settled_tied : IsTied graph settled
  settled_tied = record {
    reduced = tied.reduced;
    ordered = tied.ordered;
    defined = settled_defined;
    over_nodes = λ id clause is. tied.over_nodes id clause (settled_was id clause is);
    numbers = λ id clause is. tied.numbers id clause (settled_was id clause is);
  }
