-- Good steps stay good by the new names of variables.
use Rattle.std.proofs.Common.{◌≡◌, ℕ, ◌+◌, ◌<◌, Bool, true, false, not, ◌&&◌, ℤ, neg_ℤ, pos, List, [], ◌∷◌, ◌++◌}
use Rattle.std.proofs.Common.{map, nat_eq}
use Rattle.std.proofs.Common.{None, Some, Option, inl, inr, if◌then◌else◌, refl, sym, ap, ◌∙◌, arith}
use Rattle.std.specs.Prelude.{nat_abs}
use Rattle.std.specs.List.{list_all}
use Rattle.std.proofs.lemmas.Bool.{and_parts, both_ways, or_cases}
use Rattle.std.proofs.lemmas.Bool.Decides.{Decides-eqb}
use Rattle.std.proofs.lemmas.List.Folds.{list_all-append}
use Rattle.std.proofs.lemmas.List.{map-append}
use Rattle.lrat_rules.specs.declared.outcome.Reason.{Reason}
use Rattle.drat_text.specs.declared.step.DratStep.{DratStep}
use Rattle.drat_text.specs.declared.step.DratStep.TheVariants.{Add as adds, Delete as deletes}
use Rattle.drat_rules.specs.Clauses.{same_list, is_among, without_first}
use Rattle.drat_rules.specs.Addition.{drat_fault}
use Rattle.drat_rules.specs.Run.{fault_or, first_fault}
use Rattle.fresh_names.specs.Fresh.{Names, is_new, entered_as, entered, all_entered, all_left, named, fresh_from}
use Rattle.drat_rules.specs.Hits.{DeletesStanding}
use Rattle.fresh_names.proofs.Given.{AreGiven, IsKnown, not-new}
use Rattle.fresh_names.proofs.Literals.{abs-negated, negated-named, literal-apart, named-same}
use Rattle.fresh_names.proofs.Counted.{AreNames, held_in, names-added, names-deleted, name-left, uses-entered, known_literal, literal-known}
use Rattle.fresh_names.proofs.Counted.{all-known, same_list-true}
use Rattle.fresh_names.proofs.Renamed.{QuietLaws, test-renamed, fault-renamed}

-- names stay for what is known
stays : (vars : ℕ) (names : Names) (u v : ℕ) → IsKnown vars names v → (entered vars names u).name v ≡ names.name v
stays vars names u v known =
    elim (is_new vars names u) as (λ b. is_new vars names u ≡ b → (entered_as b names u).name v ≡ names.name v) [
      | true ↦ λ new. other-name new
      | false ↦ λ _. refl
    ] refl
  where
    other-name : is_new vars names u ≡ true → (entered_as true names u).name v ≡ names.name v
    other-name new =
        elim (nat_eq v u) as (λ b. nat_eq v u ≡ b → (if b then names.next else names.name v) ≡ names.name v) [
          | true ↦ λ e.
              let same : v ≡ u = (Decides-eqb v u).0 e in
              absurd (both_ways (is_new vars names v) (not-new vars names v known) (ap (is_new vars names) same ∙ new))
          | false ↦ λ _. refl
        ] refl

still-known : (vars : ℕ) (names : Names) (u v : ℕ) → IsKnown vars names v → IsKnown vars (entered vars names u) v
still-known vars names u v (inl own) = inl own
still-known vars names u v (inr used) =
    let now : (all_entered vars names (pos u ∷ [])).uses v ≡ names.uses v + held_in v (pos u ∷ []) = uses-entered vars names (pos u ∷ []) v
    in
    let used : 0 < (entered vars names u).uses v = omega arith in
    inr used

pub stay : (vars : ℕ) (names : Names) (clause : List ℤ) (v : ℕ) → IsKnown vars names v → (all_entered vars names clause).name v ≡ names.name v
stay vars names [] v known = refl
stay vars names (x ∷ xs) v known =
    stay vars (entered vars names (nat_abs x)) xs v (still-known vars names (nat_abs x) v known) ∙ stays vars names (nat_abs x) v known

list-stays : (vars : ℕ) (names : Names) (clause xs : List ℤ) → list_all (known_literal vars names) xs ≡ true
    → map (named (all_entered vars names clause).name) xs ≡ map (named names.name) xs
list-stays vars names clause [] known = refl
list-stays vars names clause (x ∷ xs) known =
    let parts = and_parts (known_literal vars names x) _ known in
    λ i. named-same (all_entered vars names clause).name names.name x
    (stay vars names clause (nat_abs x) (literal-known vars names x parts.0)) i ∷ list-stays vars names clause xs parts.1 i

pub lists-stay : (vars : ℕ) (names : Names) (clause : List ℤ) (cs : List (List ℤ)) → list_all (list_all (known_literal vars names)) cs ≡ true
    → map (map (named (all_entered vars names clause).name)) cs ≡ map (map (named names.name)) cs
lists-stay vars names clause [] known = refl
lists-stay vars names clause (c ∷ cs) known =
    let parts = and_parts (list_all (known_literal vars names) c) _ known in
    λ i. list-stays vars names clause c parts.0 i ∷ lists-stay vars names clause cs parts.1 i

module _ (vars : ℕ) (names : Names) (given : AreGiven vars names) where
  abbrev pub to : ℤ → ℤ
  to = named names.name

  negates : (x : ℤ) → to (neg_ℤ x) ≡ neg_ℤ (to x)
  negates = negated-named names.name (given.own 0 (omega arith))

  negation-known : (x : ℤ) → known_literal vars names x ≡ true → known_literal vars names (neg_ℤ x) ≡ true
  negation-known x known = ap (λ v. not (is_new vars names v)) (abs-negated x) ∙ known

  known-apart : (x y : ℤ) → known_literal vars names x ≡ true → known_literal vars names y ≡ true → to x ≡ to y → x ≡ y
  known-apart x y kx ky e =
      literal-apart vars names given x y (literal-known vars names x kx) (literal-known vars names y ky) e

  pub good-stays : QuietLaws → (clauses : List (List ℤ)) (clause : List ℤ) → list_all (known_literal vars names) clause ≡ true
      → list_all (list_all (known_literal vars names)) clauses ≡ true → drat_fault clauses clause ≡ None
      → drat_fault (map (map to) clauses) (map to clause) ≡ None
  good-stays laws = fault-renamed to negates laws (known_literal vars names) negation-known known-apart

  same-stays : QuietLaws → (c d : List ℤ) → list_all (known_literal vars names) c ≡ true → list_all (known_literal vars names) d ≡ true
      → same_list (map to c) (map to d) ≡ same_list c d
  same-stays laws [] [] kc kd = refl
  same-stays laws [] (y ∷ ys) kc kd = refl
  same-stays laws (x ∷ xs) [] kc kd = refl
  same-stays laws (x ∷ xs) (y ∷ ys) kc kd =
      let one = and_parts (known_literal vars names x) _ kc in
      let two = and_parts (known_literal vars names y) _ kd in
      λ i. test-renamed to negates laws (known_literal vars names) negation-known known-apart x y one.0 two.0 i
      && same-stays laws xs ys one.1 two.1 i

  pub without-stays : QuietLaws → (clauses : List (List ℤ)) (clause : List ℤ) → list_all (known_literal vars names) clause ≡ true
      → list_all (list_all (known_literal vars names)) clauses ≡ true
      → without_first (map to clause) (map (map to) clauses) ≡ map (map to) (without_first clause clauses)
  without-stays laws [] clause own known = refl
  without-stays laws (c ∷ cs) clause own known =
      let parts = and_parts (list_all (known_literal vars names) c) _ known in
      ap (λ b. if b then map (map to) cs else map to c ∷ without_first (map to clause) (map (map to) cs))
      (same-stays laws clause c own parts.0)
      ∙ elim (same_list clause c)
      as (λ b. (if b then map (map to) cs else map to c ∷ without_first (map to clause) (map (map to) cs))
      ≡ map (map to) (if b then cs else c ∷ without_first clause cs)) [
        | true ↦ refl
        | false ↦ ap (λ l. map to c ∷ l) (without-stays laws cs clause own parts.1)
      ]

pub among-known : (p : List ℤ → Bool) (clauses : List (List ℤ)) (clause : List ℤ) → list_all p clauses ≡ true → is_among clauses clause ≡ true
    → p clause ≡ true
among-known p [] clause all among = cc
among-known p (c ∷ cs) clause all among =
    elim (or_cases (same_list clause c) _ among) [
      | inl here ↦ ap p (same_list-true clause c here) ∙ (and_parts (p c) _ all).0
      | inr later ↦ among-known p cs clause (and_parts (p c) _ all).1 later
    ]

fault-parts : (place : ℕ) (o : Option Reason) (later : Option (ℕ × Reason)) → fault_or place o later ≡ None → (o ≡ None) × (later ≡ None)
fault-parts place None later h = (refl, h)
fault-parts place (Some reason) later h = cc

pub good-by-names : QuietLaws → (vars : ℕ) (names : Names) (clauses : List (List ℤ)) (steps : List DratStep) → AreNames vars clauses names
    → DeletesStanding clauses steps → (place : ℕ) → first_fault place clauses steps ≡ None
    → first_fault place (map (map (named names.name)) clauses) (fresh_from vars names steps) ≡ None
good-by-names laws vars names clauses [] are stand place h = refl
good-by-names laws vars names clauses (adds clause ∷ steps) are stand place h =
    let more = all_entered vars names clause in
    let parts = fault-parts place (drat_fault clauses clause) _ h in
    let next : AreNames vars (clauses ++ clause ∷ []) more = names-added vars clauses names clause are in
    let knowns = and_parts (list_all (list_all (known_literal vars more)) clauses) _
    (sym (list_all-append (list_all (known_literal vars more)) clauses (clause ∷ [])) ∙ all-known vars (clauses ++ clause ∷ []) more next)
    in
    let own : list_all (known_literal vars more) clause ≡ true = (and_parts (list_all (known_literal vars more) clause) true knowns.1).0 in
    let moved : map (map (named more.name)) clauses ≡ map (map (named names.name)) clauses =
    lists-stay vars names clause clauses (all-known vars clauses names are) in
    let good : drat_fault (map (map (named names.name)) clauses) (map (named more.name) clause) ≡ None =
    ap (λ (cs : List (List ℤ)). drat_fault cs (map (named more.name) clause)) (sym moved)
    ∙ good-stays vars more next.given laws clauses clause own knowns.0 parts.0 in
    let both : map (map (named more.name)) (clauses ++ clause ∷ []) ≡ map (map (named names.name)) clauses ++ map (named more.name) clause ∷
    [] =
    map-append (map (named more.name)) clauses (clause ∷ []) ∙ ap (λ (cs : List (List ℤ)). cs ++ map (named more.name) clause ∷ []) moved in
    ap (λ (o : Option Reason). fault_or place o (first_fault (place + 1)
    (map (map (named names.name)) clauses ++ map (named more.name) clause ∷ []) (fresh_from vars more steps))) good
    ∙ ap (λ (cs : List (List ℤ)). first_fault (place + 1) cs (fresh_from vars more steps)) (sym both)
    ∙ good-by-names laws vars more (clauses ++ clause ∷ []) steps next stand (place + 1) parts.1
good-by-names laws vars names clauses (deletes clause ∷ steps) are stand place h =
    let less = all_left names clause in
    let next : AreNames vars (without_first clause clauses) less = names-deleted vars clauses names clause are stand.0 in
    let knowns = all-known vars clauses names are in
    let own : list_all (known_literal vars names) clause ≡ true =
    among-known (list_all (known_literal vars names)) clauses clause knowns stand.0 in
    let left_out : without_first (map (named names.name) clause) (map (map (named names.name)) clauses)
    ≡ map (map (named names.name)) (without_first clause clauses) = without-stays vars names are.given laws clauses clause own knowns in
    ap (λ (f : ℕ → ℕ). first_fault (place + 1) (without_first (map (named f) clause) (map (map (named names.name)) clauses))
    (fresh_from vars less steps)) (name-left names clause)
    ∙ ap (λ (cs : List (List ℤ)). first_fault (place + 1) cs (fresh_from vars less steps)) left_out
    ∙ ap (λ (f : ℕ → ℕ). first_fault (place + 1) (map (map (named f)) (without_first clause clauses)) (fresh_from vars less steps))
    (sym (name-left names clause))
    ∙ good-by-names laws vars less (without_first clause clauses) steps next stand.1 (place + 1) h
