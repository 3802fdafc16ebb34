-- Kept clauses stay the live ones when one is added or deleted, and their spans tell where they stand.
use Rattle.std.proofs.Common.{◌≡◌, ℕ, zero, suc, ◌+◌, ◌-◌, ◌<◌, ◌≤◌, ◌≢◌, true, false, ℤ, List, [], ◌∷◌, ◌++◌, length, map, set}
use Rattle.std.proofs.Common.{take, drop, get_or, None, Some, inl, inr, refl, sym, ◌∙◌, ap, arith, eq-eqb, ne_eqb, length-append}
use Rattle.std.proofs.lemmas.Bool.{cases_eq, cases_lt}
use Rattle.std.proofs.lemmas.List.{get_or_past, get_or-set_same, get_or-set_other, get_or_append_left, get_or-append_right, length-set}
use Rattle.std.proofs.lemmas.List.{map-append, take-append-le, drop-append-le, length-drop, take_all}
use Rattle.std.proofs.Math.Seq.{get_or-append_seam, drop-append_seam}
use Rattle.std.specs.Prelude.{if◌then◌else◌}
use Rattle.std.specs.List.{All}
use Rattle.std.specs.FinMap as finmap
use Rattle.lrat_rules.specs.State.{State, start, clause_at}
use Rattle.clause_ledger.specs.Book.{with_next}
use Rattle.clause_ledger.specs.Kept.{Place, KeptClauses, AreKept, kept_at}
use Rattle.clause_ledger.specs.Spans.{Fits, clause_of}
use Rattle.clause_ledger.specs.declared.kept.Span.{Span}
use Rattle.clause_ledger.specs.declared.kept.Span.TheVariants.{Free, Within}
use Rattle.clause_ledger.proofs.Added.{LiveLaw, at_other}
use Rattle.clause_ledger.proofs.Deleted.{removed_at}

-- the place of a number
pub kept_at-place : (places : List Place) (id : ℕ) → 0 < id → get_or places (id - 1) None ≡ kept_at places id
kept_at-place places zero above = absurd (omega (arith, above))
kept_at-place places (suc i) above =
    let same : suc i - 1 ≡ i = omega arith in
    ap (λ n. get_or places n None) same

-- nothing is kept under zero, nor above the last number
pub kept_at-none : (places : List Place) (id : ℕ) → (0 < id → length places < id) → kept_at places id ≡ None
kept_at-none places zero above = refl
kept_at-none places (suc i) above =
    let past : length places < suc i = above (omega arith) in
    get_or_past places i None (omega (arith, past))

-- at first nothing is kept
pub are_kept-none : {kept : KeptClauses} → kept.places ≡ [] → clause_at (start []).live 0 ≡ None
    → ((id : ℕ) → 0 < id → clause_at (start []).live id ≡ None) → AreKept (start []) kept
are_kept-none {kept} is at_zero above = record { clauses = clauses; count = ap length is } where
  clauses : (id : ℕ) → kept_at kept.places id ≡ clause_at (start []).live id
  clauses zero = sym at_zero
  clauses (suc i) = ap (λ (places : List Place). get_or places i None) is ∙ get_or_past [] i None (omega arith)
      ∙ sym (above (suc i) (omega arith))

-- what is kept under a number behind the last one, and under another
kept_at-last : (places : List Place) (place : Place) (id : ℕ) → id ≡ length places + 1 → kept_at (places ++ place ∷ []) id ≡ place
kept_at-last places place zero is = absurd (omega (arith, is))
kept_at-last places place (suc i) is =
    let last : i ≡ length places = omega (arith, is) in
    ap (λ n. get_or (places ++ place ∷ []) n None) last ∙ get_or-append_seam places place [] None

kept_at-other : (places : List Place) (place : Place) (id : ℕ) → id ≢ length places + 1
    → kept_at (places ++ place ∷ []) id ≡ kept_at places id
kept_at-other places place zero other = refl
kept_at-other places place (suc i) other =
    let differ : i ≢ length places = λ same. other (omega (arith, same)) in
    elim (cases_lt i (length places)) [
      | inl lt ↦ get_or_append_left places (place ∷ []) None i lt
      | inr le ↦ get_or-append_right places (place ∷ []) (length places) i None refl le
          ∙ get_or_past (place ∷ []) (i - length places) None (omega (arith, differ, le)) ∙ sym (get_or_past places i None le)
    ]

-- one clause more
module _ (law : LiveLaw) (state : State) (kept : KeptClauses) (clause : List ℤ) (are : AreKept state kept) where
  more_at : (id : ℕ) → kept_at (kept.places ++ Some clause ∷ []) id ≡ clause_at (with_next state clause).live id
  more_at id =
      elim (cases_eq id (state.top + 1)) [
        | inl same ↦ kept_at-last kept.places (Some clause) id (omega (arith, same, are.count))
            ∙ sym (law state.live (state.top + 1) id clause
            ∙ ap (λ b. if b then Some clause else clause_at state.live id) (eq-eqb id (state.top + 1) same))
        | inr differ ↦ let other : id ≢ length kept.places + 1 = λ last. differ (omega (arith, last, are.count)) in
            kept_at-other kept.places (Some clause) id other ∙ are.clauses id
            ∙ sym (at_other law state.live (state.top + 1) id clause differ)
      ]

  pub are_kept-push : {more : KeptClauses} → more.places ≡ kept.places ++ Some clause ∷ [] → AreKept (with_next state clause) more
  are_kept-push is = record {
    clauses = λ id. ap (λ (places : List Place). kept_at places id) is ∙ more_at id;
    count = ap length is ∙ length-append kept.places (Some clause ∷ []) ∙ ap (λ n. n + 1) are.count;
  }

-- what is live once a number is taken out
abbrev pub removed : State → ℕ → State
removed state id = record { live = finmap.remove state.live id; top = state.top }

module _ (state : State) (kept : KeptClauses) (id : ℕ) (are : AreKept state kept) where
  -- its place, and another
  cleared : (other : ℕ) → other ≢ id → 0 < id → kept_at (set kept.places (id - 1) None) other ≡ kept_at kept.places other
  cleared zero differ above = refl
  cleared (suc j) differ above = get_or-set_other kept.places (id - 1) j None None (λ same. differ (omega (arith, same, above)))

  fewer_at : (other : ℕ) → 0 < id → id ≤ length kept.places
      → kept_at (set kept.places (id - 1) None) other ≡ clause_at (finmap.remove state.live id) other
  fewer_at other above within =
      elim (cases_eq other id) [
        | inl same ↦ ap (kept_at (set kept.places (id - 1) None)) same ∙ sym (kept_at-place (set kept.places (id - 1) None) id above)
            ∙ get_or-set_same kept.places (id - 1) None None (omega (arith, above, within))
            ∙ sym (removed_at state.live id other true (eq-eqb other id same))
        | inr differ ↦ cleared other differ above ∙ are.clauses other
            ∙ sym (removed_at state.live id other false (ne_eqb other id differ))
      ]

  -- a clause fewer
  pub are_kept-set : {fewer : KeptClauses} → 0 < id → id ≤ length kept.places → fewer.places ≡ set kept.places (id - 1) None
      → AreKept (removed state id) fewer
  are_kept-set above within is = record {
    clauses = λ other. ap (λ (places : List Place). kept_at places other) is ∙ fewer_at other above within;
    count = ap length is ∙ length-set kept.places (id - 1) None ∙ are.count;
  }

  -- nothing was kept under the number
  pub are_kept-same : (0 < id → length kept.places < id) → AreKept (removed state id) kept
  are_kept-same above = record {
    clauses = λ other.
        elim (cases_eq other id) [
          | inl same ↦ ap (kept_at kept.places) same ∙ kept_at-none kept.places id above
              ∙ sym (removed_at state.live id other true (eq-eqb other id same))
          | inr differ ↦ are.clauses other ∙ sym (removed_at state.live id other false (ne_eqb other id differ))
        ];
    count = are.count;
  }

-- literals are put behind those that are there: each span that fits stays what it was
clause_of-more : (literals more : List ℤ) (span : Span) → Fits literals span → clause_of (literals ++ more) span ≡ clause_of literals span
clause_of-more literals more Free fits = refl
clause_of-more literals more (Within len start) fits =
    let size : length (drop start literals) ≡ length literals - start = length-drop start literals in
    ap Some (ap (take len) (drop-append-le start literals more (omega (arith, fits)))
    ∙ take-append-le len (drop start literals) more (omega (arith, fits, size)))

places_more : (literals more : List ℤ) (spans : List Span) → All (Fits literals) spans
    → map (clause_of (literals ++ more)) spans ≡ map (clause_of literals) spans
places_more literals more [] fits = refl
places_more literals more (span ∷ spans) fits = λ i. clause_of-more literals more span (fits 0 span (omega arith)) i
    ∷ places_more literals more spans (λ k d lt. fits (suc k) d (omega (arith, lt))) i

last_clause : (literals clause : List ℤ) → clause_of (literals ++ clause) (Within (length clause) (length literals)) ≡ Some clause
last_clause literals clause =
    ap Some (ap (take (length clause)) (drop-append_seam literals clause) ∙ take_all (length clause) clause (omega arith))

-- a clause was put behind the literals, and its span behind the others
module _ (literals clause : List ℤ) (spans : List Span) (fits : All (Fits literals) spans) where
  places-behind : map (clause_of (literals ++ clause)) (spans ++ Within (length clause) (length literals) ∷ [])
      ≡ map (clause_of literals) spans ++ Some clause ∷ []
  places-behind = map-append (clause_of (literals ++ clause)) spans (Within (length clause) (length literals) ∷ [])
      ∙ (λ i. places_more literals clause spans fits i ++ last_clause literals clause i ∷ [])

  pub places-put : {start : ℕ} {spans₁ more_spans : List Span} {literals₁ more_literals : List ℤ}
      → more_spans ≡ spans₁ ++ Within (length clause) start ∷ [] → spans₁ ≡ spans → more_literals ≡ literals₁ ++ clause
      → literals₁ ≡ literals
      → start ≡ length literals → map (clause_of more_literals) more_spans ≡ map (clause_of literals) spans ++ Some clause ∷ []
  places-put put same copied same_literals start =
      ap (map (clause_of _)) (put ∙ (λ i. same i ++ Within (length clause) (start i) ∷ []))
      ∙ ap (λ (l : List ℤ). map (clause_of l) (spans ++ Within (length clause) (length literals) ∷ []))
      (copied ∙ (λ i. same_literals i ++ clause))
      ∙ places-behind
