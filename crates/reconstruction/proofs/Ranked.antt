-- Variables of entries: ranked, and given values.
use Rattle.std.proofs.Common.{◌≡◌, ◌∙◌, ◌+◌, ◌-◌, ◌<◌, ◌≤◌, ◌||◌, ℕ, Bool, true, false, List, [], ◌∷◌, drop, length, map}
use Rattle.std.proofs.Common.{reverse, take, refl, sym, ap, subst, arith, inl, inr}
use Rattle.std.proofs.Common.{eq-eqb, ne_eqb}
use Rattle.std.specs.Prelude.{Contains, slice_index_or, slice_set, if◌then◌else◌}
use Rattle.std.proofs.lemmas.Bool.{cases_eq}
use Rattle.std.proofs.lemmas.List.Elements.{Contains-append_cases, Contains-append_left, Contains-append_right}
use Rattle.std.proofs.lemmas.List.{get_or-set_other, get_or-set_same, reverse-append, take-append-drop, take_more}
use Rattle.cnf_base.specs.Truth.{assignment_of}
use Rattle.reconstruction.specs.declared.entries.Entry.{Entry}
use Rattle.reconstruction.specs.declared.ranks.Rank.{Rank}
use Rattle.reconstruction.specs.Entries.{variables_of}
use Rattle.reconstruction.specs.Ranks.{AreRanksBefore, AreRising, rank_in, rank_of, unranked}
use Rattle.reconstruction.specs.SetsBack.{is_among}
use Rattle.reconstruction.proofs.Alike.{value_set}
use Rattle.reconstruction.proofs.Holds.{among_first, among_more, none_among, set_at, set_off}
use Rattle.reconstruction.proofs.SetBackAlike.{take_all}

-- one entry more
pub variables_more : (entries : List Entry) (place : ℕ) (d : Entry) → place < length entries
    → variables_of (take (place + 1) entries) ≡ (slice_index_or entries place d).variable ∷ variables_of (take place entries)
variables_more entries place d inside =
    ap (λ (l : List Entry). map (λ (e : Entry). e.variable) (reverse l)) (take_more entries place d inside)
    ∙ ap (map (λ (e : Entry). e.variable)) (reverse-append (take place entries) (slice_index_or entries place d ∷ []))

-- one rank given
pub rank_here : (ranks : List Rank) (round rank x : ℕ) → x - 1 < length ranks
    → rank_of (slice_set ranks (x - 1) (record { round = round; rank = rank })) round x ≡ rank
rank_here ranks round rank x inside =
    ap (rank_in round) (get_or-set_same ranks (x - 1) (record { round = round; rank = rank }) unranked inside)
    ∙ ap (λ b. if b then rank else 0) (eq-eqb round round refl)

pub rank_there : (ranks : List Rank) (round : ℕ) (given : Rank) (x v : ℕ) → 0 < x → 0 < v → (v ≡ x → ⊥)
    → rank_of (slice_set ranks (x - 1) given) round v ≡ rank_of ranks round v
rank_there ranks round given x v some above differ =
    ap (rank_in round) (get_or-set_other ranks (x - 1) (v - 1) given unranked (λ same. differ (omega (arith, same, some, above))))

pub before_more : (ranks : List Rank) (round : ℕ) (given : Rank) (place : ℕ) → place < length ranks → given.round ≡ round
    → AreRanksBefore (round + 1) ranks → AreRanksBefore (round + 1) (slice_set ranks place given)
before_more ranks round given place inside is before other = elim (cases_eq other place) [
  | inl same ↦
      let at : (slice_index_or (slice_set ranks place given) other unranked).round ≡ round =
      ap (λ n. (slice_index_or (slice_set ranks place given) n unranked).round) same
      ∙ ap (λ (r : Rank). r.round) (get_or-set_same ranks place given unranked inside) ∙ is in
      omega (arith, at)
  | inr differ ↦
      let at : (slice_index_or (slice_set ranks place given) other unranked).round ≡ (slice_index_or ranks other unranked).round =
      ap (λ (r : Rank). r.round) (get_or-set_other ranks place other given unranked differ) in
      let less : (slice_index_or ranks other unranked).round < round + 1 = before other in
      omega (arith, at, less)
]

-- no rank is of this round at first
pub none_ranked : (ranks : List Rank) (round : ℕ) → AreRanksBefore round ranks → (v : ℕ) → rank_of ranks round v ≡ 0
none_ranked ranks round before v =
    let less : (slice_index_or ranks (v - 1) unranked).round < round = before (v - 1) in
    ap (λ b. if b then (slice_index_or ranks (v - 1) unranked).rank else 0)
    (ne_eqb (slice_index_or ranks (v - 1) unranked).round round (λ same. omega (arith, less, same)))

-- The variables of the first entries are ranked, the last of them lowest, and no others.
pub record AreRanked (count : ℕ) (ranks : List Rank) (round : ℕ) (xs : List ℕ) (differ : Bool) : Type 0 where
  pub before : AreRanksBefore (round + 1) ranks
  pub others : (v : ℕ) → 0 < v → is_among xs v ≡ false → rank_of ranks round v ≡ 0
  pub ranked : (v : ℕ) → 0 < v → is_among xs v ≡ true → count < rank_of ranks round v
  pub rising : differ ≡ true → AreRising (rank_of ranks round) xs

pub ranked_none : (count : ℕ) (ranks : List Rank) (round : ℕ) → AreRanksBefore round ranks → AreRanked count ranks round [] true
ranked_none count ranks round before = record {
  before = λ place. let less : (slice_index_or ranks place unranked).round < round = before place in omega (arith, less);
  others = λ v above none. none_ranked ranks round before v;
  ranked = λ v above among. absurd (let no : false ≡ true = among in cc);
  rising = λ is. tt;
}

rising_same : (old new : ℕ → ℕ) (xs : List ℕ) → ((v : ℕ) → is_among xs v ≡ true → 0 < v)
    → ((v : ℕ) → 0 < v → is_among xs v ≡ true → new v ≡ old v) → AreRising old xs → AreRising new xs
rising_same old new [] some same rising = tt
rising_same old new (x ∷ xs) some same rising = (
  λ v above among.
      let first : 0 < x = some x (among_first x x xs refl) in
      let at : new x ≡ old x = same x first (among_first x x xs refl) in
      let other : new v ≡ old v = same v above (among_more v x xs among) in
      let less = rising.0 v above among in
      omega (arith, at, other, less),
  rising_same old new xs (λ v among. some v (among_more v x xs among)) (λ v above among. same v above (among_more v x xs among)) rising.1,
)

-- one variable more
pub ranked_more : (count : ℕ) (ranks : List Rank) (round : ℕ) (xs : List ℕ) (differ new : Bool) (x : ℕ)
    → AreRanked (count + 1) ranks round xs differ → 0 < x → x ≤ length ranks → ((v : ℕ) → is_among xs v ≡ true → 0 < v)
    → (new ≡ true → (differ ≡ true) × (rank_of ranks round x ≡ 0))
    → AreRanked count (slice_set ranks (x - 1) (record { round = round; rank = count + 1 })) round (x ∷ xs) new
ranked_more count ranks round xs differ new x are some within positive fresh =
    let inside : x - 1 < length ranks = omega (arith, some, within) in
    let given : Rank = record { round = round; rank = count + 1 } in
    let after = slice_set ranks (x - 1) given in
    let here : rank_of after round x ≡ count + 1 = rank_here ranks round (count + 1) x inside in
    record {
      before = before_more ranks round given (x - 1) inside refl are.before;
      others = λ v above none.
          let head = none_among v x xs none in
          rank_there ranks round given x v some above head.0 ∙ are.others v above head.1;
      ranked = λ v above among. elim (cases_eq v x) [
        | inl same ↦ let at : rank_of after round v ≡ rank_of after round x = ap (rank_of after round) same in omega (arith, at, here)
        | inr other ↦
            let at = rank_there ranks round given x v some above other in
            let more = are.ranked v above (among_rest v x xs other among) in
            omega (arith, at, more)
      ];
      rising = λ is.
          let was = fresh is in
          let other : (v : ℕ) → is_among xs v ≡ true → v ≡ x → ⊥ = λ v among same.
          let more = are.ranked x some (ap (is_among xs) (sym same) ∙ among) in omega (arith, more, was.1) in (
            λ v above among.
                let at = rank_there ranks round given x v some above (other v among) in
                let more = are.ranked v above among in
                omega (arith, at, more, here),
            rising_same (rank_of ranks round) (rank_of after round) xs positive
                (λ v above among. rank_there ranks round given x v some above (other v among)) (are.rising was.0),
          );
    }
  where
    among_rest : (v x : ℕ) (xs : List ℕ) → (v ≡ x → ⊥) → is_among (x ∷ xs) v ≡ true → is_among xs v ≡ true
    among_rest v x xs other among = ap (λ b. b || is_among xs v) (sym (ne_eqb v x other)) ∙ among

-- what holds of each entry's variable
pub among_each : (P : ℕ → Type 0) (entries : List Entry) → ((entry : Entry) → Contains entries entry → P entry.variable) → (v : ℕ)
    → is_among (variables_of entries) v ≡ true → P v
among_each P entries each v among = each_of (reverse entries) (λ entry there. each entry (turned entries entry there)) among
  where
    turned : (list : List Entry) (entry : Entry) → Contains (reverse list) entry → Contains list entry
    turned [] entry there = there
    turned (e ∷ list) entry there =
        elim (Contains-append_cases (reverse list) (e ∷ []) entry
        (subst (λ (l : List Entry). Contains l entry) (reverse-append (e ∷ []) list) there)) [
          | inl early ↦ Contains-append_right (e ∷ []) list entry (turned list entry early)
          | inr last ↦ Contains-append_left (e ∷ []) list entry last
        ]

    each_of : (list : List Entry) → ((entry : Entry) → Contains list entry → P entry.variable)
        → is_among (map (λ (e : Entry). e.variable) list) v ≡ true → P v
    each_of [] all is = absurd (let no : false ≡ true = is in cc)
    each_of (e ∷ list) all is = elim (cases_eq v e.variable) [
      | inl same ↦ subst P (sym same) (all e (0, omega arith, refl))
      | inr differ ↦ each_of list (λ entry there. all entry (Contains-append_right (e ∷ []) list entry there))
          (ap (λ b. b || is_among (map (λ (e : Entry). e.variable) list) v) (sym (ne_eqb v e.variable differ)) ∙ is)
    ]

pub front_each : (P : ℕ → Type 0) (entries : List Entry) (n : ℕ) → ((entry : Entry) → Contains entries entry → P entry.variable) → (v : ℕ)
    → is_among (variables_of (take n entries)) v ≡ true → P v
front_each P entries n each v among = among_each P (take n entries) (λ entry there. each entry
    (subst (λ (l : List Entry). Contains l entry) (take-append-drop n entries)
    (Contains-append_left (take n entries) (drop n entries) entry there))) v among

-- one value more
pub filled_more : (before values new : List Bool) (value : Bool) (xs : List ℕ) (x : ℕ) → 0 < x → x ≤ length values
    → new ≡ slice_set values (x - 1) value
    → ((v : ℕ) → 0 < v → assignment_of values v ≡ (if is_among xs v then value else assignment_of before v))
    → (v : ℕ) → 0 < v → assignment_of new v ≡ (if is_among (x ∷ xs) v then value else assignment_of before v)
filled_more before values new value xs x some within is known v above =
    ap (λ (l : List Bool). assignment_of l v) is ∙ (value_set values x value some within).same v above
    ∙ elim (cases_eq v x) [
      | inl same ↦ set_at (assignment_of values) x value v same
          ∙ sym (ap (λ b. if b then value else assignment_of before v) (among_first v x xs same))
      | inr differ ↦ set_off (assignment_of values) x value v differ ∙ known v above
          ∙ sym (ap (λ b. if b || is_among xs v then value else assignment_of before v) (ne_eqb v x differ))
    ]

-- the whole list
pub take_whole : (entries : List Entry) (n : ℕ) → length entries ≤ n → variables_of (take n entries) ≡ variables_of entries
take_whole entries n all = ap variables_of (take_all entries n all)

pub ranked_all : (entries : List Entry) (n : ℕ) → length entries ≤ n → (count : ℕ) (ranks : List Rank) (round : ℕ) (differ : Bool)
    → AreRanked count ranks round (variables_of (take n entries)) differ → AreRanked count ranks round (variables_of entries) differ
ranked_all entries n all count ranks round differ are =
    subst (λ (l : List ℕ). AreRanked count ranks round l differ) (take_whole entries n all) are
