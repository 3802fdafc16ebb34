-- Cubes that are answered one by one, beside the formula's term, which is released at the end.
use Rattle.std.proofs.Common.{◌≡◌, ◌⊎◌, ◌∙◌, ◌<◌, ◌≤◌, ◌+◌, ◌++◌, ℕ, zero, suc, Bool, true, false, ℤ, List, [], ◌∷◌, length, take}
use Rattle.std.proofs.Common.{◌≢◌, None, Some, Ok, Err, Result, refl, sym, ap, subst, arith, inl, inr}
use Rattle.std.specs.Prelude.{IsErrAnd, IsTrue, slice_index_or}
use Rattle.std.specs.List.{list_all}
use Rattle.std.proofs.lemmas.Bool.{and_parts}
use Rattle.std.proofs.lemmas.List.{take_more}
use Rattle.cnf_base.specs.declared.step.Step.{Step}
use Rattle.cnf_base.specs.Formula.{Formula}
use Rattle.cnf_base.specs.Truth.{Assignment}
use Rattle.node_table.specs.declared.error.TableError.{TableError}
use Rattle.node_table.specs.declared.error.TableError.TheVariants.{NodeLimit, IdLimit, OutOfMemory, WriteFault}
use Rattle.node_table.specs.HandedOn.{no_error, same_error}
use Rattle.node_table.specs.Laws.{StepByStep}
use Rattle.lrat_rules.specs.State.{Live}
use Rattle.node_table.specs.Table.{TableState}
use Rattle.bdd_terms.specs.declared.held.HeldTerm.{HeldTerm}
use Rattle.bdd_terms.specs.declared.runner.Runner.{Runner}
use Rattle.bdd_terms.specs.Runner.{IsGood, IsListed, IsRunner, Releases, holds_in}
use Rattle.cube_queries.specs.declared.answer.Answer.{Answer}
use Rattle.cube_queries.specs.Answers.{AreAnswers, IsAnswer}
use Rattle.cube_queries.specs.Steps.{GivesBack, Goes, IsSpent, Replies, RepliesAll, TakesOver, formula_holds}
use Rattle.cube_queries.proofs.Alone.{released_alone}
use Rattle.cube_queries.proofs.Formulas.{all_taken}
use Rattle.cube_queries.proofs.Replied.{all_and_one, answers_further}
use Rattle.cube_queries.proofs.Stays.{Stays, goes_further, goes_released, ids_whole, memory_whole, nodes_whole}
use Rattle.cube_queries.proofs.Whole.{goes_none}

-- what all of a list are, one is
pub all_at : {A : Type 0} (p : A → Bool) (xs : List A) (i : ℕ) (d : A) → list_all p xs ≡ true → i < length xs
    → p (slice_index_or xs i d) ≡ true
all_at p [] i d all within = absurd (omega (arith, within))
all_at p (x ∷ xs) zero d all within = (and_parts (p x) (list_all p xs) all).0
all_at p (x ∷ xs) (suc i) d all within = all_at p xs i d (and_parts (p x) (list_all p xs) all).1 (omega (arith, within))

pub stays_none : {S : Type 0} → StepByStep S → (runner : Runner S) → IsRunner runner → Stays runner runner
stays_none steps runner is = record {
  runner = is;
  out = refl;
  keeps = record { good = λ held good. good; values = λ held good a. refl };
  goes = goes_none steps runner is;
}

pub stays_replied : {S : Type 0} (cube : List ℤ) (old new : Runner S) (answer : Answer) → Replies cube old new (Ok answer) → Stays old new
stays_replied cube old new answer replies = record {
  runner = replies.goes_on no_error;
  out = replies.out;
  keeps = replies.keeps no_error;
  goes = replies.goes;
}

abbrev pub AnswersIn : {S : Type 0} → Runner S → List (List ℤ) → List Answer → Type 0
AnswersIn runner cubes answers =
    AreAnswers runner.formula.now runner.terms.table.graph.order runner.terms.table.book.steps runner.terms.table.book.state.live cubes
    answers

-- one cube more
pub answers_more : {S : Type 0} (old new : Runner S) (cubes : List (List ℤ)) (place : ℕ) → place < length cubes → (answers : List Answer)
    → (answer : Answer) → AnswersIn old (take place cubes) answers → Replies (slice_index_or cubes place []) old new (Ok answer)
    → AnswersIn new (take (place + 1) cubes) (answers ++ answer ∷ [])
answers_more old new cubes place within answers answer before replies =
    subst (λ (l : List (List ℤ)). AnswersIn new l (answers ++ answer ∷ [])) (sym (take_more cubes place [] within))
    (all_and_one (IsAnswer new.formula.now new.terms.table.graph.order new.terms.table.book.steps new.terms.table.book.state.live)
    (take place cubes) answers (slice_index_or cubes place []) answer
    (answers_further old new replies.goes replies.clauses (take place cubes) answers before) replies.answer)

pub whole_answers : {S : Type 0} (runner : Runner S) (cubes : List (List ℤ)) (place : ℕ) → place ≡ length cubes → (answers : List Answer)
    → AnswersIn runner (take place cubes) answers → AnswersIn runner cubes answers
whole_answers runner cubes place all answers are =
    subst (λ (l : List (List ℤ)). AnswersIn runner l answers)
    (ap (λ (n : ℕ). take n cubes) all ∙ all_taken cubes) are

-- the ends of all cubes
pub all_replied : {S : Type 0} (cubes : List (List ℤ)) (old new : Runner S) (answers : List Answer) → Stays old new
    → AnswersIn new cubes answers → RepliesAll cubes old new (Ok answers)
all_replied cubes old new answers stays are = record {
  goes_on = λ whole. stays.runner;
  answers = are;
  unrefuted = λ is. absurd (no_error is);
  behind = λ is. absurd (no_error is);
  goes = stays.goes;
}

module _ {S : Type 0} (steps : StepByStep S) (cubes : List (List ℤ)) (old mid new : Runner S) (before : Stays old mid) (error : TableError)
    (r : Result (List Answer) TableError) (is : IsErrAnd r (λ e. e ≡ error)) where
  handed : RepliesAll cubes old new (Err error) → RepliesAll cubes old new r
  handed replies = by_result r is where
    by_result : (r : Result (List Answer) TableError) → IsErrAnd r (λ e. e ≡ error) → RepliesAll cubes old new r
    by_result (Ok answers) is = absurd is
    by_result (Err other) is = subst (λ (e : TableError). RepliesAll cubes old new (Err e)) (sym is) replies

  pub none_replied : (cube : List ℤ) → Replies cube mid new (Err error) → RepliesAll cubes old new r
  none_replied cube replies = handed (record {
    goes_on = λ whole. replies.goes_on (λ same. whole (ap Err (same_error same)));
    answers = tt;
    unrefuted = λ is. absurd (replies.no_limit (ap Err (same_error is)));
    behind = λ is was. inr (replies.spent (ap Err (same_error is)));
    goes = goes_further steps old mid new (Some error) before.goes replies.goes;
  })

  pub none_reclaimed : {T : Type 0} → GivesBack {S = S} {T = T} mid new (Err error) → RepliesAll cubes old new r
  none_reclaimed back = handed (record {
    goes_on = λ whole. back.goes_on (λ same. whole (ap Err (same_error same)));
    answers = tt;
    unrefuted = λ is. absurd (back.no_limit (ap Err (same_error is)));
    behind = λ is. absurd (back.no_numbers (ap Err (same_error is)));
    goes = goes_further steps old mid new (Some error) before.goes back.goes;
  })

-- want of memory for an answer
pub no_room_replied : {S : Type 0} (cubes : List (List ℤ)) (old new : Runner S) → Stays old new → (r : Result (List Answer) TableError)
    → IsErrAnd r (λ e. e ≡ OutOfMemory) → RepliesAll cubes old new r
no_room_replied cubes old new stays (Ok answers) is = absurd is
no_room_replied cubes old new stays (Err other) is = subst (λ (e : TableError). RepliesAll cubes old new (Err e)) (sym is) (record {
  goes_on = λ whole. stays.runner;
  answers = tt;
  unrefuted = λ same. absurd (let e : OutOfMemory ≡ NodeLimit = same_error same in cc);
  behind = λ same. absurd (let e : OutOfMemory ≡ IdLimit = same_error same in cc);
  goes = record {
    formula = stays.goes.formula;
    limits = stays.goes.limits;
    order = stays.goes.order;
    origin = stays.goes.origin;
    leaves = stays.goes.leaves;
  };
})

-- what the next cube asks for
module _ {S : Type 0} (old mid : Runner S) (stays : Stays old mid) (held : HeldTerm) (good : IsGood old held) where
  pub value_yet : ((a : Assignment) → holds_in old held a ≡ formula_holds old.formula.now a) → (a : Assignment)
      → holds_in mid held a ≡ formula_holds mid.formula.now a
  value_yet value a =
      stays.keeps.values held good a ∙ value a ∙ ap (λ f. formula_holds f.now a) (sym stays.goes.formula)

-- the formula's term, all cubes, and the release
module _ {S : Type 0} (steps : StepByStep S) (cubes : List (List ℤ)) (old mid two new : Runner S) (held : HeldTerm)
    (before : Goes old mid None)
    (released : IsTrue two.terms.table.book.in_step → Releases held two new)
    (torn : two.terms.table.book.in_step ≡ false → new ≡ two) where
  pub all_released : (r : Result (List Answer) TableError) → r ≢ Err NodeLimit → (r ≡ Err IdLimit → IsSpent two) → RepliesAll cubes mid two r
      → RepliesAll cubes old new r
  all_released (Ok answers) no_limit spent replies =
      let one = released (replies.goes_on no_error).over.sound.in_step in
      let steps_are : new.terms.table.book.steps ≡ two.terms.table.book.steps = ap (λ (t : TableState S). t.book.steps) one.table in
      let live_is : new.terms.table.book.state.live ≡ two.terms.table.book.state.live =
      ap (λ (t : TableState S). t.book.state.live) one.table in
      let order_is : new.terms.table.graph.order ≡ two.terms.table.graph.order = ap (λ (t : TableState S). t.graph.order) one.table in
      record {
        goes_on = λ whole. one.goes_on;
        answers = subst (λ (f : Formula). AreAnswers f new.terms.table.graph.order new.terms.table.book.steps new.terms.table.book.state.live
            cubes answers) (sym (ap (λ f. f.now) one.formula))
            (subst (λ (o : List ℕ). AreAnswers two.formula.now o new.terms.table.book.steps new.terms.table.book.state.live cubes answers)
            (sym order_is)
            (subst (λ (s : List Step). AreAnswers two.formula.now two.terms.table.graph.order s new.terms.table.book.state.live cubes answers)
            (sym steps_are)
            (subst (λ (l : Live). AreAnswers two.formula.now two.terms.table.graph.order two.terms.table.book.steps l cubes answers)
            (sym live_is) replies.answers)));
        unrefuted = λ is. absurd (no_error is);
        behind = λ is. absurd (no_error is);
        goes = goes_released steps old two new held released torn None (goes_further steps old mid two None before replies.goes);
      }
  all_released (Err error) no_limit spent replies = record {
    goes_on = λ whole. (released (replies.goes_on whole).over.sound.in_step).goes_on;
    answers = tt;
    unrefuted = λ is. absurd (no_limit is);
    behind = λ is was.
        let whole : ◌≢◌ {A = Result (List Answer) TableError} (Err error) (Err WriteFault) = λ torn. ids_whole (sym is ∙ torn) in
        let one = released (replies.goes_on whole).over.sound.in_step in
        inr (subst (λ (t : TableState S). t.book.limit ≤ t.book.state.top) (sym one.table) (spent is));
    goes = goes_released steps old two new held released torn (Some error)
        (goes_further steps old mid two (Some error) before replies.goes);
  }

-- what the release asks for
pub runner_yet : {S : Type 0} (cubes : List (List ℤ)) (old mid : Runner S) (r : Result (List Answer) TableError)
    → RepliesAll cubes old mid r → IsTrue mid.terms.table.book.in_step → IsRunner mid
runner_yet cubes old mid (Ok answers) replies on = replies.goes_on no_error
runner_yet cubes old mid (Err NodeLimit) replies on = replies.goes_on nodes_whole
runner_yet cubes old mid (Err IdLimit) replies on = replies.goes_on ids_whole
runner_yet cubes old mid (Err OutOfMemory) replies on = replies.goes_on memory_whole
runner_yet cubes old mid (Err WriteFault) replies on = absurd (let e : true ≡ false = sym on ∙ replies.goes.leaves.out_of_step in cc)

-- where the formula's term failed
pub taken_none : {S : Type 0} (cubes : List (List ℤ)) (old new : Runner S) (holds : Assignment → Bool) (error : TableError)
    (r : Result (List Answer) TableError) → IsErrAnd r (λ e. e ≡ error) → TakesOver [] holds old new (Err error) → RepliesAll cubes old new r
taken_none cubes old new holds error (Ok answers) is over = absurd is
taken_none cubes old new holds error (Err other) is over = subst (λ (e : TableError). RepliesAll cubes old new (Err e)) (sym is) (record {
  goes_on = λ whole. over.goes_on (λ same. whole (ap Err (same_error same)));
  answers = tt;
  unrefuted = λ is was. over.unrefuted (λ same. nodes_whole (sym (ap Err (same_error is)) ∙ same)) was tt;
  behind = λ is was. inl (over.unrefuted (λ same. ids_whole (sym (ap Err (same_error is)) ∙ same)) was tt);
  goes = over.goes;
})

-- no term is out behind the release, or where none was given
pub none_left : {S : Type 0} (mid new : Runner S) (held : HeldTerm) → IsListed [] mid.terms.out.items held
    → (IsTrue mid.terms.table.book.in_step → Releases held mid new) → (mid.terms.table.book.in_step ≡ false → new ≡ mid)
    → IsTrue new.terms.table.book.in_step → new.terms.out.items ≡ []
none_left {S} mid new held alone released torn on = by_step mid.terms.table.book.in_step refl where
  by_step : (b : Bool) → mid.terms.table.book.in_step ≡ b → new.terms.out.items ≡ []
  by_step true was = released_alone held mid.terms.out.items new.terms.out.items alone (released was).out
  by_step false off =
      absurd (let e : true ≡ false = sym on ∙ ap (λ (r : Runner S). r.terms.table.book.in_step) (torn off) ∙ off in cc)

pub none_taken : {S : Type 0} (old new : Runner S) (holds : Assignment → Bool) (error : TableError) → TakesOver [] holds old new (Err error)
    → IsTrue new.terms.table.book.in_step → new.terms.out.items ≡ []
none_taken old new holds NodeLimit over on = over.refused nodes_whole refl
none_taken old new holds IdLimit over on = over.refused ids_whole refl
none_taken old new holds OutOfMemory over on = over.refused memory_whole refl
none_taken old new holds WriteFault over on = absurd (let e : true ≡ false = sym on ∙ over.goes.leaves.out_of_step in cc)

-- an error that is handed on is no limit of nodes where it wasn't
pub handed_limit : (error : TableError) (r : Result (List Answer) TableError) → IsErrAnd r (λ e. e ≡ error) → (error ≡ NodeLimit → ⊥)
    → r ≢ Err NodeLimit
handed_limit error (Ok answers) is none same = absurd is
handed_limit error (Err other) is none same = none (sym is ∙ same_error same)

-- at their limit of numbers none is left where none was
pub handed_spent : {P : Type 0} (error : TableError) (r : Result (List Answer) TableError) → IsErrAnd r (λ e. e ≡ error) → (error ≡ IdLimit → P)
    → r ≡ Err IdLimit → P
handed_spent error (Ok answers) is spent same = absurd is
handed_spent error (Err other) is spent same = spent (sym is ∙ same_error same)
