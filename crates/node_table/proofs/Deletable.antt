-- The numbers of the clauses that define unmarked nodes are those of live clauses, each once, so that these may be deleted.
-- A clause of a node begins with its own extension variable.
use Rattle.std.proofs.Common.{◌≡◌, ◌⊎◌, ◌<◌, ◌≤◌, ◌+◌, ◌||◌, ◌∙◌, ℕ, zero, suc, Bool, true, false, ℤ, pos, List, [], ◌∷◌, Option, None}
use Rattle.std.proofs.Common.{Some, is_some, refl, sym, ap, subst, arith, inl, inr, eq-eqb, ne_eqb, append-nil}
use Rattle.std.specs.Prelude.{nat_abs, nat_eq, neg_ℤ, not}
use Rattle.std.specs.Cmp.{nat_eq_equiv}
use Rattle.std.specs.List.{IsDistinct}
use Rattle.std.specs.Option.{option_map, option_to_list}
use Rattle.std.specs.Set.{is_member}
use Rattle.std.proofs.lemmas.Bool.{cases_eq, eqb-true, or_cases, or_from, or_left, or_right, false_from_ne_true}
use Rattle.std.proofs.lemmas.List.Folds.{list_any-append}
use Rattle.std.proofs.lemmas.Map.Keys.{IsDistinct-push}
use Rattle.cnf_base.specs.ProofText.{given_if}
use Rattle.lrat_rules.specs.State.{Live, clause_at}
use Rattle.lrat_rules.specs.Derivation.{are_added}
use Rattle.hint_chain.specs.declared.atom.Atom.TheVariants.{Of}
use Rattle.hint_chain.specs.Atoms.{neg_atom, clause_from_atoms, high_up, low_up, high_down, low_down}
use Rattle.node_table.specs.declared.node.Branch.{Branch}
use Rattle.node_table.specs.declared.node.Defs.{Defs}
use Rattle.node_table.specs.Diagram.{Graph, IsReduced, branch_at, variable_at}
use Rattle.node_table.specs.Defined.{IsDefined, atom_of, clause_named, defs_of, hd_first, is_defined_by, is_false_node, is_given}
use Rattle.node_table.specs.Defined.{is_true_node, ld_first, lu_first, one_if}
use Rattle.node_table.specs.Deleted.{DefinesUnmarked, unmarked_below, unmarked_defs, with_defs, with_given, with_some_defs}
use Rattle.node_table.specs.Made.{inner}
use Rattle.node_table.specs.Marks.{is_marked}
use Rattle.node_table.specs.Places.{AreNumberedAbove}
use Rattle.node_table.proofs.Made.{some_up, some_down}
use Rattle.node_table.proofs.Settled.{may_delete}

-- the variable of a clause's first literal
abbrev pub head_variable : Option (List ℤ) → ℕ
head_variable None = 0
head_variable (Some []) = 0
head_variable (Some (literal ∷ clause)) = nat_abs literal

head_in : (u : ℤ) (rest : Option (List ℤ)) → is_some (option_map (λ literals. u ∷ literals) rest) ≡ true
    → head_variable (option_map (λ literals. u ∷ literals) rest) ≡ nat_abs u
head_in u None some = absurd (let e : false ≡ true = some in cc)
head_in u (Some literals) some = refl

abs-neg_pos : (n : ℕ) → nat_abs (neg_ℤ (pos n)) ≡ n
abs-neg_pos zero = refl
abs-neg_pos (suc n) = refl

-- the number of a live clause of a node
pub record IsOwn (live : Live) (b : Branch) (id : ℕ) : Type 0 where
  pub stands : is_some (clause_at live id) ≡ true
  pub variable : head_variable (clause_at live id) ≡ b.variable
  pub no_less : b.first ≤ id

named_own : (live : Live) (b : Branch) (given : Bool) (n id : ℕ) (clause : Option (List ℤ)) → is_given (given_if given n) id ≡ true
    → clause_named live (given_if given n) ≡ clause
    → is_some clause ≡ given → (is_some clause ≡ true → head_variable clause ≡ b.variable) → b.first ≤ n → IsOwn live b id
named_own live b false n id clause is named some head no_less = absurd (let e : false ≡ true = is in cc)
named_own live b true n id clause is named some head no_less =
    let same : n ≡ id = eqb-true n id is in
    let at : clause_at live id ≡ clause = ap (clause_at live) (sym same) ∙ named in
    record { stands = ap is_some at ∙ some; variable = ap head_variable at ∙ head some; no_less = omega (arith, same, no_less) }

module _ (graph : Graph) (live : Live) (reduced : IsReduced graph) (key : ℕ) (b : Branch) (at : branch_at graph key
    ≡ Some b) (defined : IsDefined live graph b) (id : ℕ) where
  abbrev u : ℤ
  u = pos b.variable

  abbrev x : ℤ
  x = pos (variable_at graph b.level)

  own_hu : is_given (defs_of b).hu id ≡ true → IsOwn live b id
  own_hu is = named_own live b (not (is_false_node b.high)) b.first id (clause_from_atoms (high_up u x (atom_of graph b.high))) is defined.hu
      (some_up graph u (neg_ℤ x) b.high (reduced.high key b at).stands)
      (head_in u (clause_from_atoms (Of (neg_ℤ x) ∷ neg_atom (atom_of graph b.high) ∷ []))) (omega arith)

  own_lu : is_given (defs_of b).lu id ≡ true → IsOwn live b id
  own_lu is = named_own live b (not (is_false_node b.low)) (lu_first b.high b.first) id
      (clause_from_atoms (low_up u x (atom_of graph b.low))) is defined.lu
      (some_up graph u x b.low (reduced.low key b at).stands) (head_in u (clause_from_atoms (Of x ∷ neg_atom (atom_of graph b.low) ∷ [])))
      (omega arith)

  own_hd : is_given (defs_of b).hd id ≡ true → IsOwn live b id
  own_hd is = named_own live b (not (is_true_node b.high)) (hd_first b.high b.low b.first) id
      (clause_from_atoms (high_down u x (atom_of graph b.high))) is defined.hd
      (some_down graph (neg_ℤ u) (neg_ℤ x) b.high (reduced.high key b at).stands)
      (λ some. head_in (neg_ℤ u) (clause_from_atoms (Of (neg_ℤ x) ∷ atom_of graph b.high ∷ [])) some ∙ abs-neg_pos b.variable) (omega arith)

  own_ld : is_given (defs_of b).ld id ≡ true → IsOwn live b id
  own_ld is = named_own live b (not (is_true_node b.low)) (ld_first b.high b.low b.first) id
      (clause_from_atoms (low_down u x (atom_of graph b.low))) is defined.ld
      (some_down graph (neg_ℤ u) x b.low (reduced.low key b at).stands)
      (λ some. head_in (neg_ℤ u) (clause_from_atoms (Of x ∷ atom_of graph b.low ∷ [])) some ∙ abs-neg_pos b.variable) (omega arith)

  pub own_clause : is_defined_by (defs_of b) id ≡ true → IsOwn live b id
  own_clause is =
      let one = is_given (defs_of b).hu id in
      let two = is_given (defs_of b).lu id in
      let three = is_given (defs_of b).hd id in
      elim (or_cases ((one || two) || three) (is_given (defs_of b).ld id) is) [
        | inl is ↦ elim (or_cases (one || two) three is) [
          | inl is ↦ elim (or_cases one two is) [
            | inl is ↦ own_hu is
            | inr is ↦ own_lu is
          ]
          | inr is ↦ own_hd is
        ]
        | inr is ↦ own_ld is
      ]

-- What is among the numbers of a node's clauses behind others.
member_option : (given : Option ℕ) (id : ℕ) → is_member nat_eq (option_to_list given) id ≡ is_given given id
member_option None id = refl
member_option (Some own) id = elim (cases_eq id own) [
  | inl same ↦ ap (λ b. b || false) (eq-eqb id own same) ∙ sym (eq-eqb own id (sym same))
  | inr differ ↦ ap (λ b. b || false) (ne_eqb id own differ) ∙ sym (ne_eqb own id (λ same. differ (sym same)))
]

pub member_given : (ids : List ℕ) (given : Option ℕ) (id : ℕ) → is_member nat_eq (with_given ids given) id
    ≡ (is_member nat_eq ids id || is_given given id)
member_given ids given id = list_any-append (nat_eq id) ids (option_to_list given)
    ∙ ap (λ b. is_member nat_eq ids id || b) (member_option given id)

or_five : (m a b c d : Bool) → ((((m || a) || b) || c) || d) ≡ (m || (((a || b) || c) || d))
or_five true a b c d = refl
or_five false a b c d = refl

pub member_defs : (ids : List ℕ) (defs : Defs) (id : ℕ) → is_member nat_eq (with_defs ids defs) id
    ≡ (is_member nat_eq ids id || is_defined_by defs id)
member_defs ids defs id =
    let one = with_given ids defs.hu in
    let two = with_given one defs.lu in
    let three = with_given two defs.hd in
    member_given three defs.ld id
    ∙ ap (λ b. b || is_given defs.ld id) (member_given two defs.hd id
    ∙ ap (λ b. b || is_given defs.hd id) (member_given one defs.lu id
    ∙ ap (λ b. b || is_given defs.lu id) (member_given ids defs.hu id)))
    ∙ or_five (is_member nat_eq ids id) (is_given defs.hu id) (is_given defs.lu id) (is_given defs.hd id) (is_given defs.ld id)

-- The numbers of a node's clauses are new behind others that have none of them.
once_given : (ids : List ℕ) (given : Bool) (n : ℕ) → IsDistinct nat_eq ids → (given ≡ true → is_member nat_eq ids n ≡ false)
    → IsDistinct nat_eq (with_given ids (given_if given n))
once_given ids true n once new = IsDistinct-push nat_eq_equiv ids n once (new refl)
once_given ids false n once new = subst (IsDistinct nat_eq) (sym (append-nil ids)) once

not_given : (given : Bool) (own n : ℕ) → own + one_if given ≤ n → is_given (given_if given own) n ≡ false
not_given true own n le = ne_eqb own n (λ same. omega (arith, le, same))
not_given false own n le = refl

own_given : (given : Bool) (n : ℕ) → given ≡ true → is_given (given_if given n) n ≡ true
own_given true n is = eq-eqb n n refl
own_given false n is = absurd (let e : false ≡ true = is in cc)

once_defs : (ids : List ℕ) (b : Branch) → IsDistinct nat_eq ids → ((id : ℕ) → is_defined_by (defs_of b) id ≡ true → is_member nat_eq ids id
    ≡ false) → IsDistinct nat_eq (with_defs ids (defs_of b))
once_defs ids b once new =
    let d = defs_of b in
    let hu = not (is_false_node b.high) in
    let lu = not (is_false_node b.low) in
    let hd = not (is_true_node b.high) in
    let ld = not (is_true_node b.low) in
    let n = b.first in
    let n2 = lu_first b.high n in
    let n3 = hd_first b.high b.low n in
    let n4 = ld_first b.high b.low n in
    let one = once_given ids hu n once (λ given. new n (or_left ((is_given d.hu n || is_given d.lu n) || is_given d.hd n) (is_given d.ld n)
    (or_left (is_given d.hu n || is_given d.lu n) (is_given d.hd n) (or_left (is_given d.hu n) (is_given d.lu n) (own_given hu n given)))))
    in
    let ids2 = with_given ids d.hu in
    let two = once_given ids2 lu n2 one (λ given. member_given ids d.hu n2
    ∙ or_from (is_member nat_eq ids n2) (is_given d.hu n2)
    (new n2 (or_left ((is_given d.hu n2 || is_given d.lu n2) || is_given d.hd n2) (is_given d.ld n2)
    (or_left (is_given d.hu n2 || is_given d.lu n2) (is_given d.hd n2)
    (or_right (is_given d.hu n2) (is_given d.lu n2) (own_given lu n2 given)))))
    (not_given hu n n2 (omega arith))) in
    let ids3 = with_given ids2 d.lu in
    let three = once_given ids3 hd n3 two (λ given. member_given ids2 d.lu n3
    ∙ or_from (is_member nat_eq ids2 n3) (is_given d.lu n3)
    (member_given ids d.hu n3 ∙ or_from (is_member nat_eq ids n3) (is_given d.hu n3)
    (new n3 (or_left ((is_given d.hu n3 || is_given d.lu n3) || is_given d.hd n3) (is_given d.ld n3)
    (or_right (is_given d.hu n3 || is_given d.lu n3) (is_given d.hd n3) (own_given hd n3 given))))
    (not_given hu n n3 (omega arith)))
    (not_given lu n2 n3 (omega arith))) in
    once_given (with_given ids3 d.hd) ld n4 three (λ given. member_given ids3 d.hd n4
    ∙ or_from (is_member nat_eq ids3 n4) (is_given d.hd n4)
    (member_given ids2 d.lu n4 ∙ or_from (is_member nat_eq ids2 n4) (is_given d.lu n4)
    (member_given ids d.hu n4 ∙ or_from (is_member nat_eq ids n4) (is_given d.hu n4)
    (new n4 (or_right ((is_given d.hu n4 || is_given d.lu n4) || is_given d.hd n4) (is_given d.ld n4) (own_given ld n4 given)))
    (not_given hu n n4 (omega arith)))
    (not_given lu n2 n4 (omega arith)))
    (not_given hd n3 n4 (omega arith)))

-- One node more: it is passed, or the numbers of its clauses come behind.
pub unmarked_cases : (marked : Bool) (node : Option Branch) → (unmarked_defs marked node ≡ None)
    ⊎ ((b : Branch) × (node ≡ Some b) × (marked ≡ false) × (unmarked_defs marked node ≡ Some (defs_of b)))
unmarked_cases true _ = inl refl
unmarked_cases false None = inl refl
unmarked_cases false (Some b) = inr (b, refl, refl, refl)

-- a number of an unmarked node's clause below a key
pub record DefinesBelow (graph : Graph) (marks : List Bool) (key id : ℕ) : Type 0 where
  pub defines : DefinesUnmarked graph marks id
  pub below : defines.key < key

pub below_defines : (graph : Graph) (marks : List Bool) (key id : ℕ) → is_member nat_eq (unmarked_below graph marks key) id ≡ true
    → DefinesBelow graph marks key id
unfolding unmarked_below
below_defines graph marks zero id is = absurd (let e : false ≡ true = is in cc)
below_defines graph marks (suc key) id is =
    let before = unmarked_below graph marks key in
    let more : DefinesBelow graph marks key id → DefinesBelow graph marks (suc key) id = λ d.
    record { defines = d.defines; below = omega (arith, d.below) } in
    elim (unmarked_cases (is_marked marks (inner key)) (branch_at graph key)) [
      | inl none ↦ more (below_defines graph marks key id (sym (ap (λ defs. is_member nat_eq (with_some_defs before defs) id) none) ∙ is))
      | inr some ↦ elim (or_cases (is_member nat_eq before id) (is_defined_by (defs_of some.0) id)
          (sym (member_defs before (defs_of some.0) id) ∙ sym (ap (λ defs. is_member nat_eq (with_some_defs before defs) id) some.3)
          ∙ is)) [
            | inl was ↦ more (below_defines graph marks key id was)
            | inr own ↦ record {
              defines = record { key = key; branch = some.0; stands = some.1; unmarked = some.2; defines = own };
              below = omega arith;
            }
          ]
    ]

pub defines_below : (graph : Graph) (marks : List Bool) (key id : ℕ) (d : DefinesUnmarked graph marks id) → d.key < key
    → is_member nat_eq (unmarked_below graph marks key) id ≡ true
unfolding unmarked_below
defines_below graph marks zero id d below = absurd (omega (arith, below))
defines_below graph marks (suc key) id d below =
    let before = unmarked_below graph marks key in
    elim (cases_eq d.key key) [
      | inl same ↦
          let marked : is_marked marks (inner key) ≡ false = ap (λ k. is_marked marks (inner k)) (sym same) ∙ d.unmarked in
          let at : branch_at graph key ≡ Some d.branch = ap (branch_at graph) (sym same) ∙ d.stands in
          let here : unmarked_defs (is_marked marks (inner key)) (branch_at graph key)
          ≡ Some (defs_of d.branch) = (λ i. unmarked_defs (marked i) (at i)) in
          ap (λ defs. is_member nat_eq (with_some_defs before defs) id) here ∙ member_defs before (defs_of d.branch) id
          ∙ or_right (is_member nat_eq before id) (is_defined_by (defs_of d.branch) id) d.defines
      | inr differ ↦
          let was = defines_below graph marks key id d (omega (arith, below, differ)) in
          elim (unmarked_cases (is_marked marks (inner key)) (branch_at graph key)) [
            | inl none ↦ ap (λ defs. is_member nat_eq (with_some_defs before defs) id) none ∙ was
            | inr some ↦
                ap (λ defs. is_member nat_eq (with_some_defs before defs) id) some.3 ∙ member_defs before (defs_of some.0) id
                ∙ or_left (is_member nat_eq before id) (is_defined_by (defs_of some.0) id) was
          ]
    ]

module _ (graph : Graph) (marks : List Bool) (live : Live) (reduced : IsReduced graph) (defined : (key : ℕ) (b : Branch)
    → branch_at graph key ≡ Some b → IsDefined live graph b) where
  -- two nodes have no clause in common
  pub same_owner : (key other id : ℕ) (a b : Branch) → branch_at graph key ≡ Some a → branch_at graph other ≡ Some b
      → is_defined_by (defs_of a) id ≡ true → is_defined_by (defs_of b) id ≡ true → key ≡ other
  same_owner key other id a b at also is own =
      reduced.apart key other a b at also
      (sym (own_clause graph live reduced key a at (defined key a at) id is).variable
      ∙ (own_clause graph live reduced other b also (defined other b also) id own).variable)

  once_below : (key : ℕ) → IsDistinct nat_eq (unmarked_below graph marks key)
  unfolding unmarked_below IsDistinct
  once_below zero = tt
  once_below (suc key) =
      let before = unmarked_below graph marks key in
      elim (unmarked_cases (is_marked marks (inner key)) (branch_at graph key)) [
        | inl none ↦ subst (λ (defs : Option Defs). IsDistinct nat_eq (with_some_defs before defs)) (sym none) (once_below key)
        | inr some ↦ subst (λ (defs : Option Defs). IsDistinct nat_eq (with_some_defs before defs)) (sym some.3)
            (once_defs before some.0 (once_below key) (λ id own. false_from_ne_true (is_member nat_eq before id) (λ is.
            let was = below_defines graph marks key id is in
            let same = same_owner was.defines.key key id was.defines.branch some.0 was.defines.stands some.1 was.defines.defines own in
            omega (arith, was.below, same))))
      ]

  -- they may be deleted, where they are above the formula's
  pub below_added : (count : ℕ) → AreNumberedAbove count graph → (key : ℕ) → are_added count live (unmarked_below graph marks key) ≡ true
  below_added count above key =
      may_delete count live (unmarked_below graph marks key) (once_below key) (λ id is.
      let d = (below_defines graph marks key id is).defines in
      let own = own_clause graph live reduced d.key d.branch d.stands (defined d.key d.branch d.stands) id d.defines in
      let less = above d.key d.branch d.stands in
      (omega (arith, less, own.no_less), own.stands))

  -- and are above a formula's where those of all nodes are
  pub defines_above : (inputs : ℕ) → AreNumberedAbove inputs graph → (id : ℕ) → DefinesUnmarked graph marks id → inputs < id
  defines_above inputs above id d =
      let own = own_clause graph live reduced d.key d.branch d.stands (defined d.key d.branch d.stands) id d.defines in
      let less = above d.key d.branch d.stands in
      omega (arith, less, own.no_less)
