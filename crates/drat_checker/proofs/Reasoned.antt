-- The reasons of false literals stay as literals are put behind them and taken back, and as clauses come.
use Rattle.std.proofs.Common.{◌≡◌, ℕ, ◌+◌, Bool, true, false, cond, ℤ, pos, neg_ℤ, List, [], ◌∷◌, ◌++◌, length, take}
use Rattle.std.proofs.Common.{get_or, set, Option, None, Some, inl, inr, refl, sym, ap, ◌∙◌, subst, arith, append_assoc, length-append}
use Rattle.std.specs.List.{list_all}
use Rattle.std.proofs.Math.ListN.{get_or-append}
use Rattle.std.proofs.Math.Seq.{get_or-append_seam, take-append_seam}
use Rattle.std.proofs.lemmas.Bool.{cases_lt}
use Rattle.std.proofs.lemmas.List.{append-nil, take-append-le}
use Rattle.lrat_rules.specs.declared.outcome.Effect.TheVariants.{Unit as Forced}
use Rattle.lrat_rules.specs.Chain.{literals_of, effect}
use Rattle.drat_checker.specs.declared.addition.Refutation.{Refutation}
use Rattle.drat_checker.specs.declared.addition.Refutation.TheVariants.{Clash, Conflict}
use Rattle.drat_checker.specs.Places.{Place, Places, place_at}
use Rattle.drat_checker.specs.Propagation.{Extends, makes_false}
use Rattle.drat_checker.specs.Trail.{Trail, cut, no_literals, with_reason}
use Rattle.drat_checker.specs.Reasons.{AreFree, AreReasons, ClashesAt, IsFalsified, KeepsReasons, Refutes, is_reason, place_forces}
use Rattle.drat_checker.proofs.FalseSets.{at_member, eq-int_eq}
use Rattle.drat_checker.proofs.Standing.{place-within}

pub no-reasons : (places : Places) → AreReasons places [] no_literals
no-reasons places = record { many = refl; reason = λ k within. absurd (omega (arith, within)) }

-- more is assumed
assumed-more : (places : Places) (few more front : List ℤ) (x : ℤ) (reason : Option ℕ) → list_all (literals_of more) few ≡ true
    → is_reason places few front x reason ≡ true → is_reason places more front x reason ≡ true
assumed-more places few more front x None all is = at_member (literals_of more) few x all is
assumed-more places few more front x (Some number) all is = is

pub reasons-assumed : (places : Places) (few more : List ℤ) (trail : Trail) → list_all (literals_of more) few ≡ true
    → AreReasons places few trail → AreReasons places more trail
reasons-assumed places few more trail all r = record {
  many = r.many;
  reason = λ k within. assumed-more places few more (take k trail.literals) (get_or trail.literals k (pos 0)) (get_or trail.reasons k None)
      all
      (r.reason k within);
}

-- a literal with its reason at the end
pub reasons-last : (places : Places) (assumed : List ℤ) (trail : Trail) (x : ℤ) (reason : Option ℕ)
    → is_reason places assumed trail.literals x reason ≡ true → AreReasons places assumed trail
    → AreReasons places assumed (with_reason x reason trail)
reasons-last places assumed trail x reason is r =
    elim (literals_of trail.literals x) as (λ b. AreReasons places assumed (cond b trail (record {
      literals = trail.literals ++ x ∷ [];
      reasons = trail.reasons ++ reason ∷ [];
    }))) [
      | true ↦ r
      | false ↦ record {
        many = length-append trail.reasons (reason ∷ []) ∙ ap (λ n. n + 1) r.many ∙ sym (length-append trail.literals (x ∷ []));
        reason = λ k within. elim (cases_lt k (length trail.literals)) [
          | inl before ↦
              let front : take k (trail.literals ++ x ∷ []) ≡ take k trail.literals =
              take-append-le k trail.literals (x ∷ []) (omega (arith, before)) in
              let own : get_or (trail.literals ++ x ∷ []) k (pos 0) ≡ get_or trail.literals k (pos 0) = get_or-append trail.literals
              (x ∷ []) (pos 0) k before in
              let why : get_or (trail.reasons ++ reason ∷ []) k None ≡ get_or trail.reasons k None =
              get_or-append trail.reasons (reason ∷ []) None k (omega (arith, before, r.many)) in
              ap (λ (l : List ℤ). is_reason places assumed l (get_or (trail.literals ++ x ∷ []) k (pos 0)) (get_or (trail.reasons ++ reason
              ∷ []) k None)) front
              ∙ ap (λ y. is_reason places assumed (take k trail.literals) y (get_or (trail.reasons ++ reason ∷ []) k None)) own
              ∙ ap (is_reason places assumed (take k trail.literals) (get_or trail.literals k (pos 0))) why ∙ r.reason k before
          | inr last ↦
              let here : k ≡ length trail.literals = omega (arith, within, last, length-append trail.literals (x ∷ [])) in
              let there : k ≡ length trail.reasons = omega (arith, here, r.many) in
              let front : take k (trail.literals ++ x ∷ []) ≡ trail.literals = ap (λ n. take n (trail.literals ++ x ∷ [])) here
              ∙ take-append_seam trail.literals (x ∷ []) in
              let own : get_or (trail.literals ++ x ∷ []) k (pos 0) ≡ x = ap (λ n. get_or (trail.literals ++ x ∷ []) n (pos 0)) here
              ∙ get_or-append_seam trail.literals x [] (pos 0) in
              let why : get_or (trail.reasons ++ reason ∷ []) k None ≡ reason =
              ap (λ n. get_or (trail.reasons ++ reason ∷ []) n None) there ∙ get_or-append_seam trail.reasons reason [] None in
              ap (λ (l : List ℤ). is_reason places assumed l (get_or (trail.literals ++ x ∷ []) k (pos 0)) (get_or (trail.reasons ++ reason
              ∷ []) k None)) front
              ∙ ap (λ y. is_reason places assumed trail.literals y (get_or (trail.reasons ++ reason ∷ []) k None)) own
              ∙ ap (is_reason places assumed trail.literals x) why ∙ is
        ];
      }
    ]

-- keeping reasons, one step after another
pub keeps-none : (places : Places) (trail : Trail) → KeepsReasons places [] trail trail
keeps-none places trail = record { kept = λ assumed all r. r; rest = []; parts = sym (append-nil trail.reasons) }

pub keeps-any : (places : Places) (more : List ℤ) (trail : Trail) → KeepsReasons places more trail trail
keeps-any places more trail = record { kept = λ assumed all r. r; rest = []; parts = sym (append-nil trail.reasons) }

pub keeps-then : {places : Places} {more : List ℤ} {a b c : Trail} → KeepsReasons places more a b → KeepsReasons places more b c
    → KeepsReasons places more a c
keeps-then {places} {more} {a} {b} {c} f g = record {
  kept = λ assumed all r. g.kept assumed all (f.kept assumed all r);
  rest = f.rest ++ g.rest;
  parts = g.parts ∙ ap (λ (l : List (Option ℕ)). l ++ g.rest) f.parts ∙ append_assoc a.reasons f.rest g.rest;
}

-- what is assumed first, and what propagation finds then
pub keeps-both : {places : Places} {more : List ℤ} {a b c : Trail} → KeepsReasons places more a b → KeepsReasons places [] b c
    → KeepsReasons places more a c
keeps-both {places} {more} {a} {b} {c} f g = record {
  kept = λ assumed all r. g.kept assumed refl (f.kept assumed all r);
  rest = f.rest ++ g.rest;
  parts = g.parts ∙ ap (λ (l : List (Option ℕ)). l ++ g.rest) f.parts ∙ append_assoc a.reasons f.rest g.rest;
}

pub keeps-is : {places : Places} {more : List ℤ} {a b c : Trail} → c ≡ b → KeepsReasons places more a b → KeepsReasons places more a c
keeps-is {places} {more} {a} {b} {c} is f = subst (λ (t : Trail). KeepsReasons places more a t) (sym is) f

last-parts : (x : ℤ) (reason : Option ℕ) (trail : Trail) (b : Bool) → (rest : List (Option ℕ))
    × ((cond b trail (record { literals = trail.literals ++ x ∷ []; reasons = trail.reasons ++ reason ∷ [] })).reasons ≡ trail.reasons ++
    rest)
last-parts x reason trail true = ([], sym (append-nil trail.reasons))
last-parts x reason trail false = (reason ∷ [], refl)

-- a literal that a clause forces
pub keeps-forced : (places : Places) (trail : Trail) (number : ℕ) (clause : List ℤ) (literal : ℤ) → place_at places number ≡ Some clause
    → effect (literals_of trail.literals) clause ≡ Forced literal
    → KeepsReasons places [] trail (with_reason (neg_ℤ literal) (Some number) trail)
keeps-forced places trail number clause literal stands e =
    let parts = last-parts (neg_ℤ literal) (Some number) trail (literals_of trail.literals (neg_ℤ literal)) in
    record {
      kept = λ assumed all r. reasons-last places assumed trail (neg_ℤ literal) (Some number)
          (ap (place_forces trail.literals (neg_ℤ literal)) stands ∙ ap (makes_false (neg_ℤ literal)) e
          ∙ eq-int_eq (neg_ℤ literal) (neg_ℤ literal) refl) r;
      rest = parts.0;
      parts = parts.1;
    }

-- a literal that is assumed
pub keeps-assumed : (places : Places) (more : List ℤ) (trail : Trail) (x : ℤ) → literals_of more x ≡ true
    → KeepsReasons places more trail (with_reason x None trail)
keeps-assumed places more trail x own =
    let parts = last-parts x None trail (literals_of trail.literals x) in
    record {
      kept = λ assumed all r. reasons-last places assumed trail x None (at_member (literals_of assumed) more x all own) r;
      rest = parts.0;
      parts = parts.1;
    }

-- falsifying a literal: nothing changes where it clashes, and else it stands last
pub keeps-falsified : {places : Places} {more : List ℤ} {old new : Trail} (clash : Bool) (last : Trail) → KeepsReasons places more old last
    → new ≡ cond clash old last → KeepsReasons places more old new
keeps-falsified {places} {more} {old} {new} true last k is = keeps-is is (keeps-any places more old)
keeps-falsified {places} {more} {old} {new} false last k is = keeps-is is k

-- where it clashes, its negation is false
pub clash-held : (trail : Trail) (assumed : List ℤ) (clash : Bool) (old last : List ℤ) (x : ℤ) → clash ≡ true
    → trail.literals ≡ cond clash old last → clash ≡ literals_of old (neg_ℤ x) → literals_of assumed x ≡ true
    → ClashesAt trail assumed x
clash-held trail assumed true old last x set is of own = record {
  own = own;
  negation = ap (λ (l : List ℤ). literals_of l (neg_ℤ x)) is ∙ sym of;
}
clash-held trail assumed false old last x set is of own = cc

-- more is assumed
pub refutes-more : (places : Places) (trail : Trail) (few more : List ℤ) (refutation : Refutation) → list_all (literals_of more) few ≡ true
    → (AreFree trail.literals few → AreFree trail.literals more) → Refutes places trail few refutation
    → Refutes places trail more refutation
refutes-more places trail few more (Clash literal) all free h = record {
  own = at_member (literals_of more) few literal all h.own;
  negation = h.negation;
}
refutes-more places trail few more (Conflict number) all free h = (h.0, free h.1)

-- taken back to the front
pub cut-back : {places : Places} {more : List ℤ} {old new : Trail} (count : ℕ) → count ≡ length old.literals → length old.reasons
    ≡ length old.literals
    → Extends old.literals new.literals → KeepsReasons places more old new → cut count new ≡ old
cut-back {places} {more} {old} {new} count is many e k =
    let first : take count new.literals ≡ old.literals = ap (λ n. take n new.literals) is ∙ ap (take (length old.literals)) e.parts
    ∙ take-append_seam old.literals e.rest in
    let second : take count new.reasons ≡ old.reasons = ap (λ n. take n new.reasons) (is ∙ sym many)
    ∙ ap (take (length old.reasons)) k.parts ∙ take-append_seam old.reasons k.rest in
    ap (λ (l : List ℤ). record { literals = l; reasons = take count new.reasons }) first
    ∙ ap (λ (l : List (Option ℕ)). record { literals = old.literals; reasons = l }) second

-- a clause comes behind the others
reason-more : (places : Places) (place : Place) (assumed front : List ℤ) (x : ℤ) (reason : Option ℕ)
    → is_reason places assumed front x reason ≡ true → is_reason (places ++ place ∷ []) assumed front x reason ≡ true
reason-more places place assumed front x None is = is
reason-more places place assumed front x (Some number) is =
    elim (place_at places number) as (λ p. place_at places number ≡ p → place_forces front x p ≡ true
    → place_forces front x (place_at (places ++ place ∷ []) number) ≡ true) [
      | None ↦ λ at h. cc
      | Some clause ↦ λ at h.
          ap (place_forces front x) (get_or-append places (place ∷ []) None number (place-within places number clause at) ∙ at) ∙ h
    ] refl is

pub reasons-more : (places : Places) (place : Place) (assumed : List ℤ) (trail : Trail) → AreReasons places assumed trail
    → AreReasons (places ++ place ∷ []) assumed trail
reasons-more places place assumed trail r = record {
  many = r.many;
  reason = λ k within. reason-more places place assumed (take k trail.literals) (get_or trail.literals k (pos 0))
      (get_or trail.reasons k None)
      (r.reason k within);
}

pub falsified-more : (places : Places) (place : Place) (literals : List ℤ) (number : ℕ) → IsFalsified places literals number
    → IsFalsified (places ++ place ∷ []) literals number
falsified-more places place literals number f = record {
  clause = f.clause;
  stands = get_or-append places (place ∷ []) None number (place-within places number f.clause f.stands) ∙ f.stands;
  falsified = f.falsified;
}
