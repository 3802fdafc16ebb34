-- What is live once the clauses that define a new node were written: what was live before, and each of them under its
-- number.
use Rattle.std.proofs.Common.{◌≡◌, ℕ, ◌+◌, ◌<◌, ◌≤◌, true, false, ◌||◌, ℤ, List, [], ◌∷◌, Option, None, Some, is_some, cond, refl, sym, ap}
use Rattle.std.proofs.Common.{◌∙◌, subst, arith, inl, inr, ◌⊎◌, eq-eqb, ne_eqb}
use Rattle.std.specs.Prelude.{◌==◌, nat_abs}
use Rattle.std.specs.Option.{option_map}
use Rattle.std.specs.List.{list_any}
use Rattle.std.specs.Ordering.{int_eq}
use Rattle.std.specs.Cmp.{unsigned_tied}
use Rattle.std.specs.FinMap as map
use Rattle.std.proofs.lemmas.Bool.{cases_eq, cases_lt, or_cases}
use Rattle.std.proofs.lemmas.Bool.Decides.{Decides-int_eq}
use Rattle.std.proofs.lemmas.Cmp.{nat_cmp_total}
use Rattle.cnf_base.specs.ProofText.{given_if}
use Rattle.lrat_rules.specs.State.{State, Live, clause_at}
use Rattle.clause_ledger.specs.Book.{with_next}
use Rattle.hint_chain.specs.declared.atom.Atom.{Atom}
use Rattle.hint_chain.specs.declared.atom.Atom.TheVariants.{Always, Never, Of}
use Rattle.hint_chain.specs.Atoms.{clause_from_atoms}
use Rattle.node_table.specs.Diagram.{Graph, levels}
use Rattle.node_table.specs.Defined.{clause_named, one_if, with_some}
use Rattle.node_table.specs.Tied.{IsOwned, IsOverNodes, KeepsClauses, GivesNumbers}

abbrev pub AreNumbers : State → Type 0
AreNumbers state = (id : ℕ) (clause : List ℤ) → clause_at state.live id ≡ Some clause → (0 < id) × (id ≤ state.top)

-- clauses that were written behind others
pub record Grows (old new : State) : Type 0 where
  pub clauses : KeepsClauses old.live new.live
  pub gives : GivesNumbers old new
  pub numbers : AreNumbers new

clause_at-next : (state : State) (clause : List ℤ) (id : ℕ) → clause_at (with_next state clause).live id
    ≡ cond (id == state.top + 1) (Some clause) (clause_at state.live id)
clause_at-next state clause id = map.get-insert nat_cmp_total state.live (state.top + 1) clause id
    ∙ ap (λ b. cond b (Some clause) (clause_at state.live id)) (unsigned_tied id (state.top + 1))

pub at_next : (state : State) (clause : List ℤ) → clause_at (with_next state clause).live (state.top + 1) ≡ Some clause
at_next state clause = clause_at-next state clause (state.top + 1)
    ∙ ap (λ b. cond b (Some clause) (clause_at state.live (state.top + 1))) (eq-eqb (state.top + 1) (state.top + 1) refl)

at_other : (state : State) (clause : List ℤ) (id : ℕ) → (id ≡ state.top + 1 → ⊥) → clause_at (with_next state clause).live id
    ≡ clause_at state.live id
at_other state clause id differ = clause_at-next state clause id
    ∙ ap (λ b. cond b (Some clause) (clause_at state.live id)) (ne_eqb id (state.top + 1) differ)

-- a live clause is the new one, or was live before
pub next_cases : (state : State) (clause : List ℤ) (id : ℕ) (found : List ℤ) → clause_at (with_next state clause).live id ≡ Some found
    → ((id ≡ state.top + 1) × (found ≡ clause)) ⊎ (clause_at state.live id ≡ Some found)
next_cases state clause id found is =
    elim (cases_eq id (state.top + 1)) [
      | inl same ↦ let here : Some clause ≡ Some found = sym (at_next state clause)
          ∙ ap (clause_at (with_next state clause).live) (sym same) ∙ is in inl (same, cc)
      | inr differ ↦ inr (sym (at_other state clause id differ) ∙ is)
    ]

is_some-of : (o : Option (List ℤ)) → is_some o ≡ true → (clause : List ℤ) × (o ≡ Some clause)
is_some-of None is = absurd (let e : false ≡ true = is in cc)
is_some-of (Some clause) is = (clause, refl)

pub Grows-none : (state : State) → AreNumbers state → Grows state state
Grows-none state numbers = record {
  clauses = λ id clause is. is;
  gives = record { no_less = omega arith; next = λ id is. inl is; each = λ id above within. absurd (omega (arith, above, within)) };
  numbers = numbers;
}

pub Grows-next : (state : State) (clause : List ℤ) → AreNumbers state → Grows state (with_next state clause)
Grows-next state clause numbers = record {
  clauses = λ id found is. at_other state clause id (λ same. omega (arith, same, (numbers id found is).1)) ∙ is;
  gives = record {
    no_less = omega arith;
    next = λ id is.
        let found = is_some-of (clause_at (with_next state clause).live id) is in
        elim (next_cases state clause id found.0 found.1) [
          | inl here ↦ inr (omega (arith, here.0))
          | inr there ↦ inl (ap is_some there)
        ];
    each = λ id above within.
        let same : id ≡ state.top + 1 = omega (arith, above, within) in
        ap is_some (ap (clause_at (with_next state clause).live) same ∙ at_next state clause);
  };
  numbers = λ id found is. elim (next_cases state clause id found is) [
    | inl here ↦ (omega (arith, here.0), omega (arith, here.0))
    | inr there ↦ let range = numbers id found there in (range.0, omega (arith, range.1))
  ];
}

pub Grows-then : (a b c : State) → Grows a b → Grows b c → Grows a c
Grows-then a b c one two = record {
  clauses = λ id clause is. two.clauses id clause (one.clauses id clause is);
  gives = record {
    no_less = omega (arith, one.gives.no_less, two.gives.no_less);
    next = λ id is. elim (two.gives.next id is) [
      | inl before ↦ one.gives.next id before
      | inr above ↦ inr (omega (arith, above, one.gives.no_less))
    ];
    each = λ id above within. elim (cases_lt b.top id) [
      | inr early ↦ let found = is_some-of (clause_at b.live id) (one.gives.each id above early) in
          ap is_some (two.clauses id found.0 found.1)
      | inl late ↦ two.gives.each id late within
    ];
  };
  numbers = two.numbers;
}

pub Grows-some : (state : State) (o : Option (List ℤ)) → AreNumbers state → Grows state (with_some state o)
Grows-some state None numbers = Grows-none state numbers
Grows-some state (Some clause) numbers = Grows-next state clause numbers

-- one clause more behind others, if there is one
pub Grows-reached : (state later last : State) (o : Option (List ℤ)) → Grows state later → last ≡ with_some later o → Grows state last
Grows-reached state later last o so_far is = subst (Grows state) (sym is)
    (Grows-then state later (with_some later o) so_far (Grows-some later o so_far.numbers))

-- the clause stands under the next number
named_some : (state : State) (o : Option (List ℤ)) → clause_named (with_some state o).live (given_if (is_some o) (state.top + 1)) ≡ o
named_some state None = refl
named_some state (Some clause) = at_next state clause

named_kept : (old new : Live) → KeepsClauses old new → (o : Option (List ℤ)) (id : ℕ) → clause_named old (given_if (is_some o) id) ≡ o
    → clause_named new (given_if (is_some o) id) ≡ o
named_kept old new keeps None id is = refl
named_kept old new keeps (Some clause) id is = keeps id clause is

pub top_some : (state : State) (o : Option (List ℤ)) → (with_some state o).top ≡ state.top + one_if (is_some o)
top_some state None = omega arith
top_some state (Some clause) = refl

-- four clauses, of which some may be none, under their numbers
pub record FourStand (state : State) (a b c d : Option (List ℤ)) (new : State) : Type 0 where
  pub grows : Grows state new
  pub one : clause_named new.live (given_if (is_some a) (state.top + 1)) ≡ a
  pub two : clause_named new.live (given_if (is_some b) (state.top + 1 + one_if (is_some a))) ≡ b
  pub three : clause_named new.live (given_if (is_some c) (state.top + 1 + one_if (is_some a) + one_if (is_some b))) ≡ c
  pub four : clause_named new.live (given_if (is_some d) (state.top + 1 + one_if (is_some a) + one_if (is_some b) + one_if (is_some c))) ≡ d

pub four_stand : (state : State) → AreNumbers state → (a b c d : Option (List ℤ))
    → FourStand state a b c d (with_some (with_some (with_some (with_some state a) b) c) d)
four_stand state numbers a b c d =
    let s1 = with_some state a in
    let s2 = with_some s1 b in
    let s3 = with_some s2 c in
    let s4 = with_some s3 d in
    let g1 : Grows state s1 = Grows-some state a numbers in
    let g2 : Grows s1 s2 = Grows-some s1 b g1.numbers in
    let g3 : Grows s2 s3 = Grows-some s2 c g2.numbers in
    let g4 : Grows s3 s4 = Grows-some s3 d g3.numbers in
    let g34 = Grows-then s2 s3 s4 g3 g4 in
    let g234 = Grows-then s1 s2 s4 g2 g34 in
    let t1 : s1.top + 1 ≡ state.top + 1 + one_if (is_some a) = omega (arith, top_some state a) in
    let t2 : s2.top + 1 ≡ state.top + 1 + one_if (is_some a) + one_if (is_some b) = omega (arith, top_some state a, top_some s1 b) in
    let t3 : s3.top + 1 ≡ state.top + 1 + one_if (is_some a) + one_if (is_some b)
    + one_if (is_some c) = omega (arith, top_some state a, top_some s1 b, top_some s2 c) in
    record {
      grows = Grows-then state s1 s4 g1 g234;
      one = named_kept s1.live s4.live g234.clauses a (state.top + 1) (named_some state a);
      two = subst (λ (n : ℕ). clause_named s4.live (given_if (is_some b) n)
          ≡ b) t1 (named_kept s2.live s4.live g34.clauses b (s1.top + 1) (named_some s1 b));
      three = subst (λ (n : ℕ). clause_named s4.live (given_if (is_some c) n)
          ≡ c) t2 (named_kept s3.live s4.live g4.clauses c (s2.top + 1) (named_some s2 c));
      four = subst (λ (n : ℕ). clause_named s4.live (given_if (is_some d) n) ≡ d) t3 (named_some s3 d);
    }

-- what holds of the clauses before and of each one written holds of all
pub each_some : (P : List ℤ → Type 0) (state : State) (o : Option (List ℤ)) → ((clause : List ℤ) → o ≡ Some clause → P clause)
    → ((id : ℕ) (clause : List ℤ) → clause_at state.live id ≡ Some clause → P clause)
    → (id : ℕ) (clause : List ℤ) → clause_at (with_some state o).live id ≡ Some clause → P clause
each_some P state None new old id clause is = old id clause is
each_some P state (Some made) new old id clause is =
    elim (next_cases state made id clause is) [
      | inl here ↦ subst P (sym here.1) (new made refl)
      | inr there ↦ old id clause there
    ]

-- an atom's extension variable, if it has one, is a node's
abbrev pub IsOverAtom : Graph → Atom → Type 0
IsOverAtom graph atom = (literal : ℤ) → atom ≡ Of literal → levels graph < nat_abs literal → IsOwned graph (nat_abs literal)

abbrev pub AreOver : Graph → List Atom → Type 0
AreOver graph [] = Unit {0}
AreOver graph (atom ∷ atoms) = IsOverAtom graph atom × AreOver graph atoms

rest_of : (o : Option (List ℤ)) (literal : ℤ) (clause : List ℤ) → option_map (λ literals. literal ∷ literals) o ≡ Some clause
    → (rest : List ℤ) × (o ≡ Some rest) × (clause ≡ literal ∷ rest)
rest_of None literal clause is = absurd (let e : None ≡ Some clause = is in cc)
rest_of (Some rest) literal clause is = (rest, refl, (let e : Some (literal ∷ rest) ≡ Some clause = is in cc))

pub over_clause : (graph : Graph) (atoms : List Atom) → AreOver graph atoms → (clause : List ℤ) → clause_from_atoms atoms ≡ Some clause
    → IsOverNodes graph clause
over_clause graph [] over clause is = λ literal among above.
    let empty : clause ≡ [] = (let e : Some [] ≡ Some clause = is in cc) in
    absurd (let e : false ≡ true = ap (λ (xs : List ℤ). list_any (int_eq literal) xs) (sym empty) ∙ among in cc)
over_clause graph (Always ∷ atoms) over clause is = absurd (let e : None ≡ Some clause = is in cc)
over_clause graph (Never ∷ atoms) over clause is = over_clause graph atoms over.1 clause is
over_clause graph (Of own ∷ atoms) over clause is = λ literal among above.
    let rest = rest_of (clause_from_atoms atoms) own clause is in
    let parts : (int_eq literal own || list_any (int_eq literal) rest.0)
    ≡ true = ap (λ (xs : List ℤ). list_any (int_eq literal) xs) (sym rest.2) ∙ among in
    elim (or_cases (int_eq literal own) (list_any (int_eq literal) rest.0) parts) [
      | inl here ↦ let same : literal ≡ own = (Decides-int_eq literal own).0 here in
          subst (λ (n : ℤ). IsOwned graph (nat_abs n)) (sym same) (over.0 own refl (subst (λ (n : ℤ). levels graph < nat_abs n) same above))
      | inr there ↦ over_clause graph atoms over.1 rest.0 rest.1 literal there above
    ]
