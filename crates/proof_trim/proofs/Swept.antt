-- The sweep back over packed steps, step by step.
use Rattle.std.proofs.Common.{◌≡◌, ◌≤◌, ◌<◌, ℕ, ◌+◌, ℤ, Bool, true, false, ◌||◌, ◌&&◌, List, [], ◌∷◌, ◌++◌, drop, length, refl, sym, ap}
use Rattle.std.proofs.Common.{◌∙◌, append_assoc, true≢false, arith}
use Rattle.std.specs.Prelude.{map, reverse, nat_eq, if◌then◌else◌}
use Rattle.std.specs.List.{list_any}
use Rattle.std.proofs.lemmas.List.{append-nil, reverse-append, reverse-reverse}
use Rattle.cnf_base.specs.declared.list.Group.{Group}
use Rattle.cnf_base.specs.declared.step.Step.{Step}
use Rattle.cnf_base.specs.declared.step.Step.TheVariants.{Add, Delete}
use Rattle.cnf_base.specs.ProofText.{is_empty}
use Rattle.proof_trim.specs.Trimmed.{additions, is_kept, kept, names, needed, one_if_addition}
use Rattle.proof_trim.specs.Packed.{hint_code, literal_code, hint_codes, codes_ahead, behind_codes, kind_of, own_number}
use Rattle.proof_trim.specs.Packed.{codes_back, packed_on, stack_of}
use Rattle.proof_trim.specs.Sweep.{LooksAt, Sweeps, first_of, pile_of}
use Rattle.proof_trim.specs.declared.sweep.Kept.{Kept}
use Rattle.proof_trim.proofs.Codes.{ahead-of, behind-of, any-hints, any-reverse, codes-hints, codes-ids, codes-literals, codes-reverse}
use Rattle.proof_trim.proofs.Moved.{is_code_of}
use Rattle.proof_trim.proofs.Piles.{none_more, one_counted}

-- The last steps had their turn.
pub record Underway (whole : List Step) (cut : List ℕ) (back : Kept) (numbers : ℕ → Bool) : Type 0 where
  pub left : List Step
  pub done : List Step
  pub parts : whole ≡ reverse left ++ done
  pub piled : cut ≡ pile_of left
  pub row : back.row ≡ stack_of (kept done)
  pub additions : back.additions ≡ additions (kept done)
  pub entered : (id : ℕ) → numbers id ≡ needed done id

pub begun : (whole : List Step) (cut : List ℕ) (back : Kept) (numbers : ℕ → Bool) → cut ≡ pile_of (reverse whole) → back.row ≡ []
    → back.additions ≡ 0 → ((id : ℕ) → numbers id ≡ false) → Underway whole cut back numbers
begun whole cut back numbers piled row count none = record {
  left = reverse whole;
  done = [];
  parts = sym (append-nil whole) ∙ ap (λ (l : List Step). l ++ []) (sym (reverse-reverse whole));
  piled = piled;
  row = row;
  additions = count;
  entered = none;
}

empty_pile : (left : List Step) → pile_of left ≡ [] → left ≡ []
empty_pile [] e = refl
empty_pile (Add id clause hints groups ∷ earlier) e = cc
empty_pile (Delete id ids ∷ earlier) e = cc

pub ended : {whole : List Step} {cut : List ℕ} {back : Kept} {numbers : ℕ → Bool} → Underway whole cut back numbers → cut ≡ []
    → Sweeps whole back numbers
ended u none =
    let all = u.parts ∙ ap (λ (l : List Step). reverse l ++ u.done) (empty_pile u.left (sym u.piled ∙ none)) in
    record {
      row = u.row ∙ ap (λ (l : List Step). stack_of (kept l)) (sym all);
      additions = u.additions ∙ ap (λ (l : List Step). additions (kept l)) (sym all);
      numbers = λ id. u.entered id ∙ ap (λ (l : List Step). needed l id) (sym all);
    }

-- a step in front of those that are kept, if it is
stacked_if : (b : Bool) (step : Step) (steps : List Step) → (if b then packed_on step else []) ++ stack_of steps
    ≡ stack_of (if b then step ∷ steps else steps)
stacked_if true step steps = refl
stacked_if false step steps = refl

counted_if : (b : Bool) (step : Step) (steps : List Step) → (if b then one_if_addition step else 0) + additions steps
    ≡ additions (if b then step ∷ steps else steps)
counted_if true step steps = sym (one_counted step steps)
counted_if false step steps = none_more (additions steps)

-- one step more
pub went_on : {whole : List Step} {cut : List ℕ} {back : Kept} {numbers : ℕ → Bool} → Underway whole cut back numbers
    → (kind id : ℕ) (rest codes now : List ℕ) (after : Kept) (new : ℕ → Bool) → cut ≡ kind ∷ rest → id ≡ first_of rest
    → codes ≡ drop 1 rest → LooksAt kind id codes now back after numbers new → Underway whole now after new
went_on {whole = whole} {back = back} {numbers = numbers} u kind id rest codes now after new is own below looks =
    by u.left u.parts (sym u.piled ∙ is) where
      same_kind : {a b : ℕ} {xs ys : List ℕ} → a ∷ xs ≡ b ∷ ys → b ≡ a
      same_kind e = cc

      same_rest : {a b : ℕ} {xs ys : List ℕ} → a ∷ xs ≡ b ∷ ys → ys ≡ xs
      same_rest e = cc

      by : (left : List Step) → whole ≡ reverse left ++ u.done → pile_of left ≡ kind ∷ rest → Underway whole now after new
      by [] parts e = cc
      by (step ∷ earlier) parts e =
          let behind : rest ≡ own_number step ∷ (codes_back step ++ pile_of earlier) = same_rest e in
          let got = looks step (pile_of earlier) (same_kind e) (own ∙ ap first_of behind) (below ∙ ap (drop 1) behind) in
          let same : numbers ≡ needed u.done = λ i id. u.entered id i in
          record {
            left = earlier;
            done = step ∷ u.done;
            parts = parts ∙ ap (λ (l : List Step). l ++ u.done) (reverse-append (step ∷ []) earlier)
                ∙ append_assoc (reverse earlier) (step ∷ []) u.done;
            piled = got.0;
            row = got.1.row ∙ (λ i. (if is_kept (same i) step then packed_on step else []) ++ u.row i)
                ∙ stacked_if (is_kept (needed u.done) step) step (kept u.done);
            additions = got.1.additions ∙ (λ i. (if is_kept (same i) step then one_if_addition step else 0) + u.additions i)
                ∙ counted_if (is_kept (needed u.done) step) step (kept u.done);
            entered = λ id. got.1.numbers id ∙ (λ i. (is_kept (same i) step && names step id) || same i id);
          }

-- a deletion goes over whole
pub deletion_looked : (kind id : ℕ) (codes now : List ℕ) (before after : Kept) (old new : ℕ → Bool) → kind ≡ 1 → now ≡ behind_codes codes
    → after.row ≡ 1 ∷ id ∷ (reverse (codes_ahead codes) ++ 0 ∷ before.row) → after.additions ≡ before.additions
    → ((x : ℕ) → new x ≡ old x) → LooksAt kind id codes now before after old new
deletion_looked kind id codes now before after old new one left row count same (Add own clause hints groups) below kind_is is are =
    absurd (apart (is_empty clause) (sym one ∙ kind_is)) where
      apart : (b : Bool) → ◌≡◌ {A = ℕ} 1 (if b then 2 else 3) → ⊥
      apart true e = cc
      apart false e = cc
deletion_looked kind id codes now before after old new one left row count same (Delete own ids) below kind_is is are =
    let those = codes-reverse (map hint_code ids) (codes-ids ids) in
    let whole : codes ≡ reverse (map hint_code ids) ++ 0 ∷ below = are ∙ append_assoc (reverse (map hint_code ids)) (0 ∷ []) below in (
      left ∙ ap behind_codes whole ∙ behind-of (reverse (map hint_code ids)) below those,
      record {
        row = row
            ∙ (λ i. 1 ∷ is i ∷ (reverse ((ap codes_ahead whole ∙ ahead-of (reverse (map hint_code ids)) below those) i) ++ 0 ∷ before.row))
            ∙ (λ i. 1 ∷ own ∷ (reverse-reverse (map hint_code ids) i ++ 0 ∷ before.row))
            ∙ ap (λ (l : List ℕ). 1 ∷ own ∷ l) (sym (append_assoc (map hint_code ids) (0 ∷ []) before.row));
        additions = count ∙ sym (none_more before.additions);
        numbers = same;
      },
    )

-- the kind tells whether an addition is of the empty clause
empty_by_kind : (b : Bool) → nat_eq (if b then 2 else 3) 2 ≡ b
empty_by_kind true = refl
empty_by_kind false = refl

kept_by : (old : ℕ → Bool) (own id kind : ℕ) (clause : List ℤ) → kind ≡ (if is_empty clause then 2 else 3) → id ≡ own
    → (nat_eq kind 2 || old id) ≡ (is_empty clause || old own)
kept_by old own id kind clause is same = (λ i. nat_eq (is i) 2 || old (same i)) ∙ (λ i. empty_by_kind (is_empty clause) i || old own)

-- the codes of an addition
module _ (own : ℕ) (clause : List ℤ) (hints : List ℕ) (groups : List Group) (codes below : List ℕ)
    (are : codes ≡ codes_back (Add own clause hints groups) ++ below) where
  abbrev hints_back : List ℕ
  hints_back = reverse (hint_codes hints groups)

  abbrev clause_back : List ℕ
  clause_back = reverse (map literal_code clause)

  whole : codes ≡ hints_back ++ 0 ∷ (clause_back ++ 0 ∷ below)
  whole = are ∙ append_assoc hints_back (0 ∷ (clause_back ++ 0 ∷ [])) below
      ∙ ap (λ (l : List ℕ). hints_back ++ 0 ∷ l) (append_assoc clause_back (0 ∷ []) below)

  hints_ahead : codes_ahead codes ≡ hints_back
  hints_ahead = ap codes_ahead whole
      ∙ ahead-of hints_back (clause_back ++ 0 ∷ below) (codes-reverse (hint_codes hints groups) (codes-hints hints groups))

  hints_gone : behind_codes codes ≡ clause_back ++ 0 ∷ below
  hints_gone = ap behind_codes whole
      ∙ behind-of hints_back (clause_back ++ 0 ∷ below) (codes-reverse (hint_codes hints groups) (codes-hints hints groups))

  clause_ahead : codes_ahead (behind_codes codes) ≡ clause_back
  clause_ahead = ap codes_ahead hints_gone ∙ ahead-of clause_back below (codes-reverse (map literal_code clause) (codes-literals clause))

  all_gone : behind_codes (behind_codes codes) ≡ below
  all_gone = ap behind_codes hints_gone ∙ behind-of clause_back below (codes-reverse (map literal_code clause) (codes-literals clause))

no_deletion : {kind : ℕ} → nat_eq kind 1 ≡ false → kind ≡ 1 → ⊥
no_deletion other is = true≢false (sym (ap (λ (n : ℕ). nat_eq n 1) is) ∙ other)

more : (n : ℕ) → n + 1 ≡ 1 + n
more n = omega arith

-- an addition that is kept goes over whole
pub addition_looked : (kind id : ℕ) (codes now : List ℕ) (before after : Kept) (old new : ℕ → Bool) → nat_eq kind 1 ≡ false
    → (nat_eq kind 2 || old id) ≡ true → now ≡ behind_codes (behind_codes codes)
    → after.row ≡ kind ∷ id ∷ (reverse (codes_ahead (behind_codes codes)) ++ 0 ∷ (reverse (codes_ahead codes) ++ 0 ∷ before.row))
    → after.additions ≡ before.additions + 1
    → ((x : ℕ) → new x ≡ (list_any (is_code_of x) (codes_ahead codes) || old x)) → LooksAt kind id codes now before after old new
addition_looked kind id codes now before after old new other keeps left row count entered (Delete own ids) below kind_is is are =
    absurd (no_deletion other kind_is)
addition_looked kind id codes now before after old new other keeps left row count entered (Add own clause hints groups) below kind_is is
    are =
    let kept_one : (is_empty clause || old own) ≡ true = sym (kept_by old own id kind clause kind_is is) ∙ keeps in
    let step : Step = Add own clause hints groups in (
      left ∙ all_gone own clause hints groups codes below are,
      record {
        row = row
            ∙ (λ i. kind_is i ∷ is i ∷ (reverse (clause_ahead own clause hints groups codes below are i)
            ++ 0 ∷ (reverse (hints_ahead own clause hints groups codes below are i) ++ 0 ∷ before.row)))
            ∙ (λ i. kind_of step ∷ own ∷ (reverse-reverse (map literal_code clause) i
            ++ 0 ∷ (reverse-reverse (hint_codes hints groups) i ++ 0 ∷ before.row)))
            ∙ ap (λ (l : List ℕ). kind_of step ∷ own ∷ l) (sym (append_assoc (map literal_code clause) (0 ∷ (hint_codes hints groups ++ 0
            ∷ [])) before.row
            ∙ ap (λ (l : List ℕ). map literal_code clause ++ 0 ∷ l) (append_assoc (hint_codes hints groups) (0 ∷ []) before.row)))
            ∙ (λ i. (if sym kept_one i then packed_on step else []) ++ before.row);
        additions = count ∙ more before.additions ∙ (λ i. (if sym kept_one i then 1 else 0) + before.additions);
        numbers = λ x. entered x
            ∙ (λ i. list_any (is_code_of x) (hints_ahead own clause hints groups codes below are i) || old x)
            ∙ ap (λ (b : Bool). b || old x) (any-reverse (is_code_of x) (hint_codes hints groups) ∙ any-hints own clause hints groups x)
            ∙ (λ i. (sym kept_one i && names step x) || old x);
      },
    )

-- any other is let go
pub addition_passed : (kind id : ℕ) (codes now : List ℕ) (before after : Kept) (old new : ℕ → Bool) → nat_eq kind 1 ≡ false
    → (nat_eq kind 2 || old id) ≡ false → now ≡ behind_codes (behind_codes codes) → after ≡ before → ((x : ℕ) → new x ≡ old x)
    → LooksAt kind id codes now before after old new
addition_passed kind id codes now before after old new other keeps left same numbers (Delete own ids) below kind_is is are =
    absurd (no_deletion other kind_is)
addition_passed kind id codes now before after old new other keeps left same numbers (Add own clause hints groups) below kind_is is are =
    let passed : (is_empty clause || old own) ≡ false = sym (kept_by old own id kind clause kind_is is) ∙ keeps in
    let step : Step = Add own clause hints groups in (
      left ∙ all_gone own clause hints groups codes below are,
      record {
        row = ap (λ (k : Kept). k.row) same ∙ (λ i. (if sym passed i then packed_on step else []) ++ before.row);
        additions = ap (λ (k : Kept). k.additions) same ∙ sym (none_more before.additions)
            ∙ (λ i. (if sym passed i then 1 else 0) + before.additions);
        numbers = λ x. numbers x ∙ (λ i. (sym passed i && names step x) || old x);
      },
    )

-- what is left is shorter
behind_shorter : (codes : List ℕ) → length (behind_codes codes) ≤ length codes
behind_shorter [] = omega arith
behind_shorter (code ∷ codes) =
    elim (nat_eq code 0) as (λ b. length (if b then codes else behind_codes codes) ≤ length (code ∷ codes)) [
      | true ↦ (let more : length (code ∷ codes) ≡ length codes + 1 = omega arith in omega (arith, more))
      | false ↦ (let later : length (behind_codes codes) ≤ length codes = behind_shorter codes in omega (arith, later))
    ]

pub shorter_once : (codes now : List ℕ) → now ≡ behind_codes codes → length now ≤ length codes
shorter_once codes now is =
    let same : length now ≡ length (behind_codes codes) = ap length is in
    omega (arith, same, behind_shorter codes)

pub shorter_twice : (codes now : List ℕ) → now ≡ behind_codes (behind_codes codes) → length now ≤ length codes
shorter_twice codes now is =
    let same : length now ≡ length (behind_codes (behind_codes codes)) = ap length is in
    omega (arith, same, behind_shorter codes, behind_shorter (behind_codes codes))

pub smaller : (cut rest codes now : List ℕ) (kind : ℕ) → cut ≡ kind ∷ rest → codes ≡ drop 1 rest → length now ≤ length codes
    → length now < length cut
smaller cut rest codes now kind is below less =
    let all : length cut ≡ length (kind ∷ rest) = ap length is in
    let part : length codes ≡ length (drop 1 rest) = ap length below in
    omega (arith, all, part, dropped rest, less) where
      dropped : (list : List ℕ) → length (drop 1 list) ≤ length list
      dropped [] = omega arith
      dropped (first ∷ list) = omega arith
