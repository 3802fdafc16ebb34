-- Keys of sets of literals, and what an index has under them once a number was entered.
use Rattle.std.proofs.Common.{◌≡◌, ◌∙◌, ◌<◌, ◌≤◌, ◌+◌, ◌-◌, ◌++◌, ◌&&◌, ℕ, suc, Bool, true, false, cond, ℤ, pos, List, [], ◌∷◌, length, take, replicate, set}
use Rattle.std.proofs.Common.{Option, None, Some, is_some, refl, sym, ap, arith}
use Rattle.std.specs.Prelude.{slice_index_or}
use Rattle.std.specs.Bool.{then_some}
use Rattle.std.specs.Cmp.Lexicographic.{pointwise}
use Rattle.std.specs.Cmp.Rules.{signed_items}
use Rattle.std.specs.Option.{option_or}
use Rattle.std.specs.Ordering.{int_eq}
use Rattle.std.proofs.lemmas.List.{append_assoc, length-take-le, set_at, take_all, take_more}
use Rattle.parity_equations.specs.Index.{first_under, padded}
use Rattle.parity_equations.specs.LiteralSet.{is_candidate, literal_set}

pub none_or : (found : Option ℕ) → option_or found None ≡ found
none_or None = refl
none_or (Some n) = refl

-- it had one under this key
pub has_already : (number : List ℤ → Option ℕ) (key : List ℤ) (n : ℕ) → is_some (number key) ≡ true → (other : List ℤ)
    → number other ≡ option_or (number other) (then_some (pointwise int_eq key other) n)
has_already number key n has other = go (pointwise int_eq key other) refl
  where
    stays : (found : Option ℕ) → is_some found ≡ true → found ≡ option_or found (Some n)
    stays None is = absurd (let e : false ≡ true = is in cc)
    stays (Some m) is = refl

    go : (same : Bool) → pointwise int_eq key other ≡ same → number other ≡ option_or (number other) (then_some same n)
    go true is = stays (number other) (ap (λ (l : List ℤ). is_some (number l)) (sym ((signed_items key other).0 is)) ∙ has)
    go false is = sym (none_or (number other))

-- it had none
pub put_under : (number after : List ℤ → Option ℕ) (key : List ℤ) (n : ℕ) → is_some (number key) ≡ false
    → ((other : List ℤ) → after other ≡ cond (pointwise int_eq key other) (Some n) (number other)) → (other : List ℤ)
    → after other ≡ option_or (number other) (then_some (pointwise int_eq key other) n)
put_under number after key n had puts other = puts other ∙ go (pointwise int_eq key other) refl
  where
    was_none : (found : Option ℕ) → is_some found ≡ false → Some n ≡ option_or found (Some n)
    was_none None is = refl
    was_none (Some m) is = absurd (let e : true ≡ false = is in cc)

    go : (same : Bool) → pointwise int_eq key other ≡ same → cond same (Some n) (number other) ≡ option_or (number other) (then_some same n)
    go true is = was_none (number other) (ap (λ (l : List ℤ). is_some (number l)) (sym ((signed_items key other).0 is)) ∙ had)
    go false is = sym (none_or (number other))

-- the numbers under keys, one clause more
pub first_more : (n : ℕ) (clauses : List (List ℤ)) (clause key : List ℤ) → first_under n (clauses ++ clause ∷ []) key
    ≡ option_or (first_under n clauses key) (first_under (n + length clauses) (clause ∷ []) key)
first_more n [] clause key = ap (λ m. first_under m (clause ∷ []) key) (let e : n ≡ n + 0 = omega arith in e)
first_more n (first ∷ clauses) clause key =
    go (first_more (n + 1) clauses clause key) (is_candidate first && pointwise int_eq (padded (literal_set first)) key)
  where
    go : first_under (n + 1) (clauses ++ clause ∷ []) key
        ≡ option_or (first_under (n + 1) clauses key) (first_under (n + 1 + length clauses) (clause ∷ []) key) → (here : Bool)
        → cond here (Some n) (first_under (n + 1) (clauses ++ clause ∷ []) key)
        ≡ option_or (cond here (Some n) (first_under (n + 1) clauses key)) (first_under (n + length (first ∷ clauses)) (clause ∷ []) key)
    go rest true = refl
    go rest false = rest
        ∙ ap (λ m. option_or (first_under (n + 1) clauses key) (first_under m (clause ∷ []) key))
        (let e : n + 1 + length clauses ≡ n + length (first ∷ clauses) = omega arith in e)

-- a clause alone
pub alone_refused : (n : ℕ) (clause key : List ℤ) → is_candidate clause ≡ false → first_under n (clause ∷ []) key ≡ None
alone_refused n clause key is = ap (λ b. cond (b && pointwise int_eq (padded (literal_set clause)) key) (Some n) None) is

pub alone : (n : ℕ) (clause key : List ℤ) → is_candidate clause ≡ true → first_under n (clause ∷ []) key
    ≡ then_some (pointwise int_eq (padded (literal_set clause)) key) n
alone n clause key is = ap (λ b. cond (b && pointwise int_eq (padded (literal_set clause)) key) (Some n) None) is
    ∙ go (pointwise int_eq (padded (literal_set clause)) key)
  where
    go : (b : Bool) → cond b (Some n) None ≡ then_some b n
    go true = refl
    go false = refl

-- a key, literal by literal
module _ (literals : List ℤ) (few : length literals ≤ 8) where
  pub key_more : (place : ℕ) (key : List ℤ) → place < length literals → key ≡ take place literals ++ replicate (8 - place) (pos 0)
      → set key place (slice_index_or literals place (pos 0)) ≡ take (place + 1) literals ++ replicate (8 - (place + 1)) (pos 0)
  key_more place key small is =
      let count : length (take place literals) ≡ place = length-take-le place literals (omega (arith, small)) in
      let shape : replicate (8 - place) (pos 0) ≡ pos 0 ∷ replicate (8 - (place + 1)) (pos 0) =
      ap (λ n. replicate n (pos 0)) (let e : 8 - place ≡ suc (8 - (place + 1)) = omega (arith, small, few) in e) in
      let literal = slice_index_or literals place (pos 0) in
      ap (λ (l : List ℤ). set l place literal) (is ∙ ap (λ (l : List ℤ). take place literals ++ l) shape)
      ∙ set_at (take place literals) (pos 0) (replicate (8 - (place + 1)) (pos 0)) literal place count
      ∙ sym (append_assoc (take place literals) (literal ∷ []) (replicate (8 - (place + 1)) (pos 0)))
      ∙ ap (λ (l : List ℤ). l ++ replicate (8 - (place + 1)) (pos 0)) (sym (take_more literals place (pos 0) small))

  pub key_whole : (place : ℕ) (key : List ℤ) → place ≤ length literals → length literals ≤ place
      → key ≡ take place literals ++ replicate (8 - place) (pos 0) → key ≡ padded literals
  key_whole place key within past is =
      is ∙ (λ k. take_all place literals past k ++ replicate (8 - (let e : place ≡ length literals = omega (arith, within, past) in e) k)
      (pos 0))
