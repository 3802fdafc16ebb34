-- The steps by drafts of lines are those by their tokens.
use Rattle.std.proofs.Common.{◌≡◌, ℕ, true, List, [], ◌∷◌, ◌++◌, ◌==◌, if◌then◌else◌, refl, sym, ◌∙◌, ap}
use Rattle.std.specs.Prelude.{nat_lt}
use Rattle.cnf_base.specs.Text.{Word}
use Rattle.text_scan.specs.Items.{Items, the_end, too_long, next_word}
use Rattle.lrat_text.specs.Form.{Form, IsForm}
use Rattle.lrat_text.specs.LineSteps.{overlong, step_then, steps_after, steps_of, row_of_word}
use Rattle.lrat_text.specs.LineReader.{drafted}
use Rattle.lrat_text.proofs.Settled.{same_choice}

module _ {Draft Step : Type 0} (form : Form Draft Step) (law : IsForm form) where
  drafted-begun : (draft : Draft) (word : Word) (items : Items) → form.is_begun draft ≡ true →
      drafted form (next_word word items) draft
      ≡ (if form.line draft == word.line then drafted form items (form.with_word draft word)
      else step_then (form.judged draft) (form.line draft) (drafted form items (form.of_word word)))
  drafted-begun draft word items begun = rw begun refl

  drafted-is : (items : Items) (line : ℕ) (first : List ℕ) (words : List (List ℕ))
      → steps_after form.step_of items (record { line = line; words = first ∷ words }) ≡ drafted form items (law.draft_of line first words)
  drafted-is (the_end at) line first words = rw (law.begun line first words, law.on_line line first words, law.spelled line first words) refl
  drafted-is (too_long at) line first words = rw (law.begun line first words, law.on_line line first words, law.spelled line first words) refl
  drafted-is (next_word word items) line first words =
      let draft : Draft = law.draft_of line first words in
      ap (λ s. if line == word.line then s
      else step_then (form.step_of (first ∷ words)) line (steps_after form.step_of items (row_of_word word)))
      (drafted-is items line first (words ++ word.bytes ∷ []) ∙ ap (drafted form items) (law.one_more line first words word))
      ∙ ap (λ s. if line == word.line then drafted form items (form.with_word draft word)
      else step_then (form.step_of (first ∷ words)) line s)
      (drafted-is items word.line word.bytes [] ∙ ap (drafted form items) (law.first_word word.line word.bytes))
      ∙ ap (λ j. if line == word.line then drafted form items (form.with_word draft word)
      else step_then j line (drafted form items (form.of_word word))) (sym (law.spelled line first words))
      ∙ ap (λ n. if n == word.line then drafted form items (form.with_word draft word)
      else step_then (form.judged draft) n (drafted form items (form.of_word word))) (sym (law.on_line line first words))
      ∙ sym (drafted-begun draft word items (law.begun line first words))

  pub drafted-start : (items : Items) → steps_of form.step_of items ≡ drafted form items form.no_draft
  drafted-start (the_end at) = rw law.none_begun refl
  drafted-start (too_long at) = rw law.none_begun (same_choice (nat_lt 0 at) overlong
      ∙ sym (same_choice (nat_lt (form.line form.no_draft) at) overlong))
  drafted-start (next_word word items) = rw law.none_begun
      (drafted-is items word.line word.bytes [] ∙ ap (drafted form items) (law.first_word word.line word.bytes))
