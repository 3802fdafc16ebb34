-- A slab while the values that aren't marked are removed, key by key.
use Rattle.std.proofs.Common.{◌≡◌, ◌≢◌, ℕ, ◌+◌, ◌<◌, ◌≤◌, Bool, true, false, not, List, [], ◌∷◌, ◌++◌, length, map, get_or, drop, Option}
use Rattle.std.proofs.Common.{None, Some, cond, refl, sym, ap, ◌∙◌, inl, inr, arith}
use Rattle.std.specs.Prelude.{if◌then◌else◌}
use Rattle.std.proofs.lemmas.Bool.{cases_eq, cases_lt}
use Rattle.std.proofs.lemmas.List.{drop_more, drop_all, get_or_past, append_assoc, length-append}
use Rattle.slab.specs.Slab.{Slab, get, entries_from, slab_len}
use Rattle.node_table.specs.Swept.{unmarked_among, unmarked}

module _ {T : Type 0} where
  -- what of the values from a key on isn't marked, told as numbers
  abbrev pub rest_of : (ℕ × T → ℕ) → List Bool → Slab T → ℕ → List ℕ
  rest_of number marks nodes key = map number (unmarked_among marks (entries_from key (drop key nodes.slots)))

  rest-none : (number : ℕ × T → ℕ) (marks : List Bool) (nodes : Slab T) (key : ℕ) → get nodes key ≡ None → rest_of number marks nodes key
      ≡ rest_of number marks nodes (key + 1)
  rest-none number marks nodes key is = elim (cases_lt key (length nodes.slots)) [
    | inl lt ↦
        ap (λ slots. map number (unmarked_among marks (entries_from key slots))) (drop_more nodes.slots key None lt)
        ∙ ap (λ (slot : Option T). map number (unmarked_among marks (entries_from key (slot ∷ drop (key + 1) nodes.slots)))) is
    | inr le ↦
        ap (λ slots. map number (unmarked_among marks (entries_from key slots))) (drop_all key nodes.slots le)
        ∙ sym (ap (λ slots. map number (unmarked_among marks (entries_from (key + 1) slots)))
        (drop_all (key + 1) nodes.slots (omega (arith, le))))
  ]

  rest-some : (number : ℕ × T → ℕ) (marks : List Bool) (nodes : Slab T) (key : ℕ) (value : T) → get nodes key ≡ Some value → (b : Bool)
      → get_or marks key false ≡ b
      → rest_of number marks nodes key ≡ cond b (rest_of number marks nodes (key + 1)) (number (key, value)
      ∷ rest_of number marks nodes (key + 1))
  rest-some number marks nodes key value is b mark = elim (cases_lt key (length nodes.slots)) [
    | inl lt ↦
        ap (λ slots. map number (unmarked_among marks (entries_from key slots))) (drop_more nodes.slots key None lt)
        ∙ ap (λ (slot : Option T). map number (unmarked_among marks (entries_from key (slot ∷ drop (key + 1) nodes.slots)))) is
        ∙ ap (λ c. map number (cond (not c) ((key, value) ∷ unmarked_among marks (entries_from (key + 1) (drop (key + 1) nodes.slots)))
        (unmarked_among marks (entries_from (key + 1) (drop (key + 1) nodes.slots))))) mark
        ∙ either b
    | inr le ↦ absurd (let none : None ≡ Some value = sym (get_or_past nodes.slots key None le) ∙ is in cc)
  ]
    where
      either : (c : Bool) → map number (cond (not c) ((key, value)
          ∷ unmarked_among marks (entries_from (key + 1) (drop (key + 1) nodes.slots)))
          (unmarked_among marks (entries_from (key + 1) (drop (key + 1) nodes.slots))))
          ≡ cond c (rest_of number marks nodes (key + 1)) (number (key, value) ∷ rest_of number marks nodes (key + 1))
      either true = refl
      either false = refl

  -- The values below a key that aren't marked are removed, and the list has gained their numbers.
  pub record IsSweeping (number : ℕ × T → ℕ) (marks : List Bool) (old mid : Slab T) (before now : List ℕ) (key : ℕ) : Type 0 where
    pub swept : (other : ℕ) → other < key → get mid other ≡ (if get_or marks other false then get old other else None)
    pub left : (other : ℕ) → key ≤ other → get mid other ≡ get old other
    pub given : now ++ rest_of number marks old key ≡ before ++ map number (unmarked marks old)
    pub count : length now + slab_len mid ≡ length before + slab_len old
    pub no_less : length before ≤ length now

  module _ (number : ℕ × T → ℕ) (marks : List Bool) (old mid later : Slab T) (before now : List ℕ) (key : ℕ)
      (sweeping : IsSweeping number marks old mid before now key)
      (here : get later key ≡ (if get_or marks key false then get mid key else None)) (others : (other : ℕ) → other ≢ key → get later other
      ≡ get mid other) where
    swept_further : (other : ℕ) → other < key + 1 → get later other ≡ (if get_or marks other false then get old other else None)
    swept_further other h = elim (cases_eq other key) [
      | inl same ↦
          ap (get later) same ∙ here
          ∙ ap (λ o. if get_or marks key false then o else None) (sweeping.left key (omega arith))
          ∙ ap (λ k. if get_or marks k false then get old k else None) (sym same)
      | inr differ ↦ others other differ ∙ sweeping.swept other (omega (arith, h, differ))
    ]

    left_further : (other : ℕ) → key + 1 ≤ other → get later other ≡ get old other
    left_further other h = others other (λ same. omega (arith, h, same)) ∙ sweeping.left other (omega (arith, h))

    -- nothing was removed
    pub sweep_passes : None ≡ (if get_or marks key false then None else get mid key) → slab_len later ≡ slab_len mid
        → IsSweeping number marks old later before now (key + 1)
    sweep_passes none as_many = record {
      swept = swept_further;
      left = left_further;
      given = ap (λ rest. now ++ rest) (sym rest) ∙ sweeping.given;
      count = omega (arith, as_many, sweeping.count);
      no_less = sweeping.no_less;
    }
      where
        rest : rest_of number marks old key ≡ rest_of number marks old (key + 1)
        rest = elim (get old key) as (λ o. get old key ≡ o → rest_of number marks old key ≡ rest_of number marks old (key + 1)) [
          | None ↦ λ is. rest-none number marks old key is
          | Some value ↦ λ is. elim (get_or marks key false) as (λ b. get_or marks key false ≡ b → rest_of number marks old key
              ≡ rest_of number marks old (key + 1)) [
                | true ↦ λ mark. rest-some number marks old key value is true mark
                | false ↦ λ mark. absurd (
                    let there : None ≡ get mid key = none ∙ ap (λ b. if b then None else get mid key) mark in
                    let e : None ≡ Some value = there ∙ sweeping.left key (omega arith) ∙ is in cc)
              ] refl
        ] refl

    -- a value was removed
    pub sweep_takes : (value : T) → Some value ≡ (if get_or marks key false then None else get mid key) → slab_len later + 1 ≡ slab_len mid
        → IsSweeping number marks old later before (now ++ number (key, value) ∷ []) (key + 1)
    sweep_takes value some fewer = record {
      swept = swept_further;
      left = left_further;
      given = append_assoc now (number (key, value) ∷ []) (rest_of number marks old (key + 1)) ∙ ap (λ rest. now ++ rest) (sym rest)
          ∙ sweeping.given;
      count = omega (arith, fewer, sweeping.count, length-append now (number (key, value) ∷ []));
      no_less = omega (arith, sweeping.no_less, length-append now (number (key, value) ∷ []));
    }
      where
        unmarked_here : (get_or marks key false ≡ false) × (get old key ≡ Some value)
        unmarked_here = elim (get_or marks key false) as (λ b. get_or marks key false ≡ b → (get_or marks key false ≡ false)
            × (get old key ≡ Some value)) [
              | true ↦ λ mark. absurd (let e : Some value ≡ None = some ∙ ap (λ b. if b then None else get mid key) mark in cc)
              | false ↦ λ mark. (mark, sym (sweeping.left key (omega arith)) ∙ sym (some ∙ ap (λ b. if b then None else get mid key) mark))
            ] refl

        rest : rest_of number marks old key ≡ number (key, value) ∷ rest_of number marks old (key + 1)
        rest = rest-some number marks old key value unmarked_here.1 false unmarked_here.0
