-- The live clauses of a trimmed proof: those of the whole proof under the numbers that are there, and no others.
use Rattle.std.proofs.Common.{◌≡◌, ◌⊎◌, ℕ, Bool, true, false, ◌||◌, ℤ, List, [], ◌∷◌, Option, Some, None, is_some, nat_eq, cond, refl}
use Rattle.std.proofs.Common.{sym, ap}
use Rattle.std.proofs.Common.{subst, ◌∙◌, inl, inr, eqb-true}
use Rattle.std.specs.Prelude.{if◌then◌else◌}
use Rattle.std.specs.Cmp.{unsigned_tied}
use Rattle.std.specs.FinMap as finmap
use Rattle.std.specs.List.{filter}
use Rattle.std.proofs.lemmas.Bool.{cases_Bool, both_ways}
use Rattle.std.proofs.lemmas.Cmp.{nat_cmp_total}
use Rattle.lrat_rules.specs.State.{Live, clause_at, with_clause, without_clauses}
use Rattle.proof_trim.specs.Trimmed.{id_if_live, live_ids}
use Rattle.proof_trim.proofs.Chains.{has_id}

pub with_at : (live : Live) (number : ℕ) (clause : List ℤ) (id : ℕ) → clause_at (with_clause live number clause) id
    ≡ (if nat_eq id number then Some clause else clause_at live id)
with_at live number clause id = finmap.get-insert nat_cmp_total live number clause id
    ∙ ap (λ (b : Bool). cond b (Some clause) (clause_at live id)) (unsigned_tied id number)

pub without_at : (live : Live) (number id : ℕ) → clause_at (finmap.remove live number) id
    ≡ (if nat_eq id number then None else clause_at live id)
without_at live number id = finmap.get-remove nat_cmp_total live number id
    ∙ ap (λ (b : Bool). cond b None (clause_at live id)) (unsigned_tied id number)

either : (a b : Bool) (p : Option (List ℤ)) → (if b then None else (if a then None else p)) ≡ (if a || b then None else p)
either true true p = refl
either true false p = refl
either false b p = refl

-- what is left once all these went
pub without_all : (live : Live) (ids : List ℕ) (id : ℕ) → clause_at (without_clauses live ids) id
    ≡ (if has_id ids id then None else clause_at live id)
without_all live [] id = refl
without_all live (first ∷ ids) id =
    without_all (finmap.remove live first) ids id
    ∙ ap (λ (p : Option (List ℤ)). if has_id ids id then None else p) (without_at live first id)
    ∙ either (nat_eq id first) (has_id ids id) (clause_at live id)

-- those of a list that pass
pub filtered : (test : ℕ → Bool) (ids : List ℕ) (id : ℕ) → test id ≡ true → has_id (filter test ids) id ≡ has_id ids id
filtered test [] id passes = refl
filtered test (first ∷ ids) id passes =
    elim (test first) as (λ b. test first ≡ b → has_id (if b then first ∷ filter test ids else filter test ids) id
    ≡ (nat_eq id first || has_id ids id)) [
      | true ↦ λ is. ap (λ (b : Bool). nat_eq id first || b) (filtered test ids id passes)
      | false ↦ λ is.
          elim (nat_eq id first) as (λ b. nat_eq id first ≡ b → has_id (filter test ids) id ≡ (b || has_id ids id)) [
            | true ↦ λ same. absurd (both_ways (test first) is (sym (ap test (eqb-true id first same)) ∙ passes))
            | false ↦ λ other. filtered test ids id passes
          ] refl
    ] refl

first_listed : (id first : ℕ) (p : Option (List ℤ)) (rest : List ℕ) → is_some p ≡ true → nat_eq id first ≡ true
    → has_id (id_if_live first p rest) id ≡ true
first_listed id first None rest h same = cc
first_listed id first (Some clause) rest h same = ap (λ (b : Bool). b || has_id rest id) same

others_listed : (id first : ℕ) (p : Option (List ℤ)) (rest : List ℕ) → nat_eq id first ≡ false
    → has_id (id_if_live first p rest) id ≡ has_id rest id
others_listed id first None rest other = refl
others_listed id first (Some clause) rest other = ap (λ (b : Bool). b || has_id rest id) other

-- of a live clause's number nothing is lost
pub live_ids-all : (live : Live) (ids : List ℕ) (id : ℕ) → is_some (clause_at live id) ≡ true → has_id (live_ids live ids) id ≡ has_id ids
    id
live_ids-all live [] id alive = refl
live_ids-all live (first ∷ ids) id alive =
    elim (nat_eq id first) as (λ b. nat_eq id first ≡ b
    → has_id (id_if_live first (clause_at live first) (live_ids (finmap.remove live first) ids)) id ≡ (b || has_id ids id)) [
      | true ↦ λ same.
          let alive_first : is_some (clause_at live first) ≡ true = subst (λ (k : ℕ). is_some (clause_at live k) ≡ true) (eqb-true id
          first same) alive in
          first_listed id first (clause_at live first) (live_ids (finmap.remove live first) ids) alive_first same
      | false ↦ λ other.
          let stays : is_some (clause_at (finmap.remove live first) id) ≡ true =
          ap is_some (without_at live first id ∙ ap (λ (b : Bool). if b then None else clause_at live id) other) ∙ alive in
          others_listed id first (clause_at live first) (live_ids (finmap.remove live first) ids) other
          ∙ live_ids-all (finmap.remove live first) ids id stays
    ] refl

-- The second map has what the first has under the numbers that are there, and nothing else.
pub record IsShadow (there : ℕ → Bool) (live other : Live) : Type 0 where
  pub same : (id : ℕ) → there id ≡ true → clause_at other id ≡ clause_at live id
  pub none : (id : ℕ) → there id ≡ false → clause_at other id ≡ None

none_if : (b : Bool) (p : Option (List ℤ)) → p ≡ None → (if b then None else p) ≡ None
none_if true p e = refl
none_if false p e = e

pub shadow_less : {there : ℕ → Bool} {live other : Live} → IsShadow there live other → (id : ℕ)
    → (clause_at other id ≡ clause_at live id) ⊎ (clause_at other id ≡ None)
shadow_less {there} shadow id =
    elim (cases_Bool (there id)) [
      | inl is ↦ inl (shadow.same id is)
      | inr not_there ↦ inr (shadow.none id not_there)
    ]

module _ {there : ℕ → Bool} {live other : Live} (shadow : IsShadow there live other) where
  -- a clause that is there was added to both
  pub shadow-with : (id : ℕ) (clause : List ℤ) → there id ≡ true → IsShadow there (with_clause live id clause) (with_clause other id clause)
  shadow-with id clause is = record {
    same = λ x h. with_at other id clause x
        ∙ ap (λ (p : Option (List ℤ)). if nat_eq x id then Some clause else p) (shadow.same x h) ∙ sym (with_at live id clause x);
    none = λ x h. with_at other id clause x ∙ (
        elim (nat_eq x id) as (λ b. nat_eq x id ≡ b → (if b then Some clause else clause_at other x) ≡ None) [
          | true ↦ λ own. absurd (both_ways (there x) h (ap there (eqb-true x id own) ∙ is))
          | false ↦ λ apart. shadow.none x h
        ] refl);
  }

  -- one that isn't there, to the first alone
  pub shadow-skip : (id : ℕ) (clause : List ℤ) → there id ≡ false → IsShadow there (with_clause live id clause) other
  shadow-skip id clause missing = record {
    same = λ x h. shadow.same x h ∙ sym (with_at live id clause x ∙ (
        elim (nat_eq x id) as (λ b. nat_eq x id ≡ b → (if b then Some clause else clause_at live x) ≡ clause_at live x) [
          | true ↦ λ own. absurd (both_ways (there x) (ap there (eqb-true x id own) ∙ missing) h)
          | false ↦ λ apart. refl
        ] refl));
    none = shadow.none;
  }

  -- one number goes from both
  pub shadow-remove : (id : ℕ) → IsShadow there (finmap.remove live id) (finmap.remove other id)
  shadow-remove id = record {
    same = λ x h. without_at other id x
        ∙ ap (λ (p : Option (List ℤ)). if nat_eq x id then None else p) (shadow.same x h) ∙ sym (without_at live id x);
    none = λ x h. without_at other id x ∙ none_if (nat_eq x id) (clause_at other x) (shadow.none x h);
  }

  -- or from the first alone, where nothing stood under it or it isn't there
  pub shadow-gone : (id : ℕ) → (clause_at live id ≡ None) ⊎ (there id ≡ false) → IsShadow there (finmap.remove live id) other
  shadow-gone id gone = record {
    same = λ x h. shadow.same x h ∙ sym (without_at live id x ∙ (
        elim (nat_eq x id) as (λ b. nat_eq x id ≡ b → (if b then None else clause_at live x) ≡ clause_at live x) [
          | true ↦ λ own.
              elim gone [
                | inl empty ↦ sym (ap (clause_at live) (eqb-true x id own) ∙ empty)
                | inr missing ↦ absurd (both_ways (there x) (ap there (eqb-true x id own) ∙ missing) h)
              ]
          | false ↦ λ apart. refl
        ] refl));
    none = shadow.none;
  }

-- A deletion, cut to what is there: what is left, and the numbers are all live at their turn.
abbrev pub ids_left : (ℕ → Bool) → Live → List ℕ → List ℕ
ids_left there live ids = filter there (live_ids live ids)

listed : (live : Live) (ids : List ℕ) (x : ℕ) → (if has_id (live_ids live ids) x then None else clause_at live x)
    ≡ (if has_id ids x then None else clause_at live x)
listed live ids x =
    elim (clause_at live x) as (λ p. clause_at live x ≡ p → (if has_id (live_ids live ids) x then None else p)
    ≡ (if has_id ids x then None else p)) [
      | None ↦ λ at. none_if (has_id (live_ids live ids) x) None refl ∙ sym (none_if (has_id ids x) None refl)
      | Some clause ↦ λ at. ap (λ (b : Bool). if b then None else Some clause) (live_ids-all live ids x (ap is_some at))
    ] refl

pub shadow-without : {there : ℕ → Bool} {live other : Live} → IsShadow there live other → (ids : List ℕ)
    → IsShadow there (without_clauses live ids) (without_clauses other (ids_left there live ids))
shadow-without {there} {live} {other} shadow ids = record {
  same = λ x h.
      without_all other (ids_left there live ids) x
      ∙ (λ i. if filtered there (live_ids live ids) x h i then None else shadow.same x h i)
      ∙ listed live ids x
      ∙ sym (without_all live ids x);
  none = λ x h. without_all other (ids_left there live ids) x ∙ none_if (has_id (ids_left there live ids) x) (clause_at other x)
      (shadow.none x h);
}

pub left_again : (there : ℕ → Bool) (ids : List ℕ) (live other : Live) → IsShadow there live other
    → live_ids other (ids_left there live ids) ≡ ids_left there live ids
left_again there [] live other shadow = refl
left_again there (first ∷ ids) live other shadow =
    elim (clause_at live first) as (λ p. clause_at live first ≡ p
    → live_ids other (filter there (id_if_live first p (live_ids (finmap.remove live first) ids)))
    ≡ filter there (id_if_live first p (live_ids (finmap.remove live first) ids))) [
      | None ↦ λ at. left_again there ids (finmap.remove live first) other (shadow-gone shadow first (inl at))
      | Some clause ↦ λ at.
          let rest : List ℕ = filter there (live_ids (finmap.remove live first) ids) in
          elim (there first) as (λ b. there first ≡ b → live_ids other (if b then first ∷ rest else rest) ≡ (if b then first ∷ rest else
          rest)) [
            | true ↦ λ is.
                ap (λ (p : Option (List ℤ)). id_if_live first p (live_ids (finmap.remove other first) rest)) (shadow.same first is ∙ at)
                ∙ ap (λ (l : List ℕ). first ∷ l) (left_again there ids (finmap.remove live first) (finmap.remove other first)
                (shadow-remove shadow first))
            | false ↦ λ missing. left_again there ids (finmap.remove live first) other (shadow-gone shadow first (inr missing))
          ] refl
    ] refl
