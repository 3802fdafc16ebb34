-- Deleting clauses line by line: what the lines of a walk over the keys leave is what one line would.
use Rattle.std.proofs.Common.{◌≡◌, ◌≢◌, ◌<◌, ◌+◌, ◌&&◌, ◌∙◌, ℕ, Bool, true, false, List, [], ◌∷◌, ◌++◌, Option, None, Some, Result, Ok}
use Rattle.std.proofs.Common.{Err, is_some, refl, sym, ap, subst, append_assoc, append-nil, add-one}
use Rattle.std.specs.Prelude.{IsTrue, OnErr, nat_eq, nat_lt}
use Rattle.std.specs.FinMap as map
use Rattle.std.specs.Cmp.{nat_eq_equiv}
use Rattle.std.specs.List.{concat}
use Rattle.std.specs.Set.{is_member}
use Rattle.std.proofs.lemmas.Bool.{and_parts, false_from_ne_true}
use Rattle.std.proofs.lemmas.Map.Views.{list_any-from_Contains}
use Rattle.cnf_base.specs.declared.step.Step.{Step}
use Rattle.cnf_base.specs.declared.step.Step.TheVariants.{Delete}
use Rattle.lrat_rules.specs.State.{State, Live, clause_at, without_clauses}
use Rattle.lrat_rules.specs.Derivation.{are_added}
use Rattle.clause_ledger.specs.Book.{AreTold, Book, after_steps, deletion}
use Rattle.clause_ledger.specs.Told.{after_steps-append, told_further, told_none, told_state}
use Rattle.node_table.specs.declared.node.Branch.{Branch}
use Rattle.node_table.specs.declared.node.Defs.{Defs}
use Rattle.node_table.specs.Diagram.{Graph, branch_at}
use Rattle.node_table.specs.Deleted.{AreOfUnmarked, DefinesUnmarked, Deletes, DeletesTorn}
use Rattle.node_table.specs.Deleted.{deletion_steps, unmarked_below, unmarked_defs, with_defs, with_given, with_some_defs}
use Rattle.node_table.specs.Made.{inner}
use Rattle.node_table.specs.Marks.{is_marked}
use Rattle.node_table.specs.Tied.{KeepsClauses}
use Rattle.node_table.proofs.Deletable.{below_defines, defines_below}
use Rattle.node_table.proofs.Settled.{gone_without, stays_without}

pub on_err : {T E : Type 0} {P : Type 0} (r : Result T E) → P → OnErr r P
on_err (Ok answer) p = tt
on_err (Err error) p = p

-- Two lists of numbers, one after another.
and_assoc : (p q r : Bool) → (p && (q && r)) ≡ ((p && q) && r)
and_assoc true q r = refl
and_assoc false q r = refl

pub are_added-append : (count : ℕ) (live : Live) (ids more : List ℕ) → are_added count live (ids ++ more)
    ≡ (are_added count live ids && are_added count (without_clauses live ids) more)
are_added-append count live [] more = refl
are_added-append count live (id ∷ ids) more =
    ap (λ b. (nat_lt count id && is_some (clause_at live id)) && b) (are_added-append count (map.remove live id) ids more)
    ∙ and_assoc (nat_lt count id && is_some (clause_at live id)) (are_added count (map.remove live id) ids)
    (are_added count (without_clauses (map.remove live id) ids) more)

pub without-append : (live : Live) (ids more : List ℕ) → without_clauses live (ids ++ more)
    ≡ without_clauses (without_clauses live ids) more
without-append live [] more = refl
without-append live (id ∷ ids) more = without-append (map.remove live id) ids more

pub added_parts : (count : ℕ) (live : Live) (ids more : List ℕ) → are_added count live (ids ++ more) ≡ true
    → (are_added count live ids ≡ true) × (are_added count (without_clauses live ids) more ≡ true)
added_parts count live ids more is = and_parts (are_added count live ids) (are_added count (without_clauses live ids) more)
    (sym (are_added-append count live ids more) ∙ is)

-- what is still live was live
pub was_without : (live : Live) (ids : List ℕ) → KeepsClauses (without_clauses live ids) live
was_without live ids id clause is =
    elim (is_member nat_eq ids id) as (λ b. is_member nat_eq ids id ≡ b → clause_at live id ≡ Some clause) [
      | true ↦ λ among. absurd (let none : None ≡ Some clause = sym (gone_without live ids id among) ∙ is in cc)
      | false ↦ λ out. sym (stays_without live ids id out) ∙ is
    ] refl

behind : (done ids : List ℕ) (given : Option ℕ) → done ++ with_given ids given ≡ with_given (done ++ ids) given
behind done ids None = sym (append_assoc done ids [])
behind done ids (Some id) = sym (append_assoc done ids (id ∷ []))

with_defs-behind : (done ids : List ℕ) (defs : Defs) → done ++ with_defs ids defs ≡ with_defs (done ++ ids) defs
with_defs-behind done ids defs =
    let one = with_given ids defs.hu in
    let two = with_given one defs.lu in
    behind done (with_given two defs.hd) defs.ld
    ∙ ap (λ l. with_given l defs.ld) (behind done two defs.hd
    ∙ ap (λ l. with_given l defs.hd) (behind done one defs.lu
    ∙ ap (λ l. with_given l defs.lu) (behind done ids defs.hu)))

-- the last of these steps deletes what stands among the clauses of the old state
pub record IsCutAmong (old : State) (steps : List Step) : Type 0 where
  pub earlier : List Step
  pub last : Step
  pub parts : steps ≡ earlier ++ last ∷ []
  pub before : State
  pub leads : after_steps old earlier ≡ before
  pub among : KeepsClauses before.live old.live
  pub top : before.top ≡ old.top

pub some_step : (state : State) (ids : List ℕ) → (ids ≡ [] → ⊥) → deletion state ids ≡ Delete state.top ids ∷ []
some_step state [] some = absurd (some refl)
some_step state (id ∷ ids) some = refl

-- The steps of deletions, one after another: the state gives its greatest number alone.
one_same : (one other : State) → one.top ≡ other.top → (ids : List ℕ) → deletion one ids ≡ deletion other ids
one_same one other same [] = refl
one_same one other same (id ∷ ids) = λ i. Delete (same i) (id ∷ ids) ∷ []

steps-same : (one other : State) → one.top ≡ other.top → (lines : List (List ℕ)) → deletion_steps one lines ≡ deletion_steps other lines
steps-same one other same [] = refl
steps-same one other same (ids ∷ more) =
    let first = one_same one other same ids in
    let rest = steps-same one other same more in
    λ i. first i ++ rest i

pub steps-append : (state : State) (lines more : List (List ℕ)) → deletion_steps state (lines ++ more)
    ≡ deletion_steps state lines ++ deletion_steps state more
steps-append state [] more = refl
steps-append state (ids ∷ lines) more =
    ap (λ (steps : List Step). deletion state ids ++ steps) (steps-append state lines more)
    ∙ sym (append_assoc (deletion state ids) (deletion_steps state lines) (deletion_steps state more))

concat-append : (lines more : List (List ℕ)) → concat (lines ++ more) ≡ concat lines ++ concat more
concat-append [] more = refl
concat-append (ids ∷ lines) more = ap (λ (l : List ℕ). ids ++ l) (concat-append lines more)
    ∙ sym (append_assoc ids (concat lines) (concat more))

abbrev pub without : State → List ℕ → State
without state ids = record { live = without_clauses state.live ids; top = state.top }

pub one_leads : (state : State) (ids : List ℕ) → after_steps state (deletion state ids) ≡ without state ids
one_leads state [] = refl
one_leads state (id ∷ ids) = refl

-- they lead to the state without these clauses
pub deletions_lead : (state : State) (lines : List (List ℕ)) → after_steps state (deletion_steps state lines) ≡ without state (concat lines)
deletions_lead state [] = refl
deletions_lead state (ids ∷ more) =
    after_steps-append state (deletion state ids) (deletion_steps state more)
    ∙ ap (λ (s : State). after_steps s (deletion_steps state more)) (one_leads state ids)
    ∙ ap (after_steps (without state ids)) (steps-same state (without state ids) refl more)
    ∙ deletions_lead (without state ids) more
    ∙ ap (λ (live : Live). record { live = live; top = state.top }) (sym (without-append state.live ids (concat more)))

module _ {S : Type 0} where
  pub Deletes-none : (book : Book S) → IsTrue book.in_step → Deletes true book book []
  Deletes-none book in_step = record {
    state = refl;
    spare = refl;
    lines = [];
    all = refl;
    told = told_none book book.spare in_step;
  }

  -- one line
  pub Deletes-one : (in_step : Bool) (old new : Book S) (ids : List ℕ) → AreTold in_step old new (deletion old.state ids)
      → new.spare ≡ old.spare → Deletes in_step old new ids
  Deletes-one in_step old new ids told spare = record {
    state = told_state told ∙ one_leads old.state ids;
    spare = spare;
    lines = ids ∷ [];
    all = append-nil ids;
    told = subst (AreTold in_step old new) (sym (append-nil (deletion old.state ids))) told;
  }

  pub DeletesTorn-one : (old new : Book S) (ids : List ℕ) → AreTold false old new (deletion old.state ids)
      → new.spare ≡ old.spare → ids ≢ [] → DeletesTorn old new ids
  unfolding Deletes-one
  DeletesTorn-one old new ids told spare some = record {
    deletes = Deletes-one false old new ids told spare;
    earlier = [];
    last = ids;
    parts = refl;
    some = some;
  }

  module _ (old mid new : Book S) (ids more : List ℕ) (one : Deletes true old mid ids) where
    live_is : mid.state.live ≡ without_clauses old.state.live ids
    live_is = ap (λ (s : State). s.live) one.state

    state_further : new.state ≡ without mid.state more → new.state ≡ without old.state (ids ++ more)
    state_further is =
        is ∙ ap (λ (s : State). without s more) one.state
        ∙ ap (λ (live : Live). record { live = live; top = old.state.top }) (sym (without-append old.state.live ids more))

    added_further : (count : ℕ) → are_added count old.state.live (ids ++ more) ≡ true → are_added count mid.state.live more ≡ true
    added_further count added = subst (λ (live : Live). are_added count live more
        ≡ true) (sym live_is) (added_parts count old.state.live ids more added).1

    pub Deletes-further : (in_step : Bool) → Deletes in_step mid new more → Deletes in_step old new (ids ++ more)
    Deletes-further in_step two =
        let same : deletion_steps mid.state two.lines ≡ deletion_steps old.state two.lines =
        steps-same mid.state old.state (ap (λ (s : State). s.top) one.state) two.lines in
        record {
          state = state_further two.state;
          spare = two.spare ∙ one.spare;
          lines = one.lines ++ two.lines;
          all = concat-append one.lines two.lines ∙ (λ i. one.all i ++ two.all i);
          told = subst (AreTold in_step old new)
              (ap (λ (steps : List Step). deletion_steps old.state one.lines ++ steps) same ∙ sym (steps-append old.state one.lines two.lines))
              (told_further in_step old mid new (deletion_steps old.state one.lines) (deletion_steps mid.state two.lines) one.told two.told);
        }

    pub DeletesTorn-further : DeletesTorn mid new more → DeletesTorn old new (ids ++ more)
    unfolding Deletes-further
    DeletesTorn-further two = record {
      deletes = Deletes-further false two.deletes;
      earlier = one.lines ++ two.earlier;
      last = two.last;
      parts = ap (λ (l : List (List ℕ)). one.lines ++ l) two.parts ∙ sym (append_assoc one.lines two.earlier (two.last ∷ []));
      some = two.some;
    }

  -- the step before the last one
  pub torn_cut : (old new : Book S) (ids : List ℕ) (torn : DeletesTorn old new ids)
      → IsCutAmong old.state (deletion_steps old.state torn.deletes.lines)
  torn_cut old new ids torn = record {
    earlier = deletion_steps old.state torn.earlier;
    last = Delete old.state.top torn.last;
    parts = ap (deletion_steps old.state) torn.parts ∙ steps-append old.state torn.earlier (torn.last ∷ [])
        ∙ ap (λ (steps : List Step). deletion_steps old.state torn.earlier ++ steps)
        (append-nil (deletion old.state torn.last) ∙ some_step old.state torn.last torn.some);
    before = without old.state (concat torn.earlier);
    leads = deletions_lead old.state torn.earlier;
    among = was_without old.state.live (concat torn.earlier);
    top = refl;
  }

  -- On the way: the numbers of the unmarked nodes below the key are those that were deleted and those that were collected.
  pub record IsDeleting (old now : Book S) (graph : Graph) (marks : List Bool) (ids : List ℕ) (key : ℕ) : Type 0 where
    pub done : List ℕ
    pub parts : done ++ ids ≡ unmarked_below graph marks key
    pub deletes : Deletes true old now done

  pub IsDeleting-start : (old : Book S) (graph : Graph) (marks : List Bool) (ids : List ℕ) → IsTrue old.in_step → ids ≡ []
      → IsDeleting old old graph marks ids 0
  unfolding unmarked_below
  IsDeleting-start old graph marks ids in_step empty = record { done = []; parts = empty; deletes = Deletes-none old in_step }

  module _ (old now : Book S) (graph : Graph) (marks : List Bool) (ids : List ℕ) (key : ℕ)
      (is : IsDeleting old now graph marks ids key) where
    -- the collected numbers may be deleted
    pub pending : (count : ℕ) → are_added count old.state.live (unmarked_below graph marks key) ≡ true → are_added count now.state.live ids
        ≡ true
    pending count added = added_further old now now is.done ids is.deletes count
        (subst (λ (all : List ℕ). are_added count old.state.live all ≡ true) (sym is.parts) added)

    next_is : (defs : Option Defs) → defs ≡ unmarked_defs (is_marked marks (inner key)) (branch_at graph key)
        → unmarked_below graph marks (key + 1) ≡ with_some_defs (unmarked_below graph marks key) defs
    unfolding unmarked_below
    next_is defs same = ap (unmarked_below graph marks) (add-one key) ∙ ap (with_some_defs (unmarked_below graph marks key)) (sym same)

    -- a key of no unmarked node
    pub IsDeleting-pass : None ≡ unmarked_defs (is_marked marks (inner key)) (branch_at graph key)
        → IsDeleting old now graph marks ids (key + 1)
    IsDeleting-pass none = record { done = is.done; parts = is.parts ∙ sym (next_is None none); deletes = is.deletes }

    -- some were deleted, and a node's were collected
    pub IsDeleting-more : (later : Book S) (deleted left after : List ℕ) (defs : Defs) → Some defs
        ≡ unmarked_defs (is_marked marks (inner key)) (branch_at graph key)
        → deleted ++ left ≡ ids → Deletes true now later deleted → after ≡ with_defs left defs
        → IsDeleting old later graph marks after (key + 1)
    IsDeleting-more later deleted left after defs some parts deletes pushed = record {
      done = is.done ++ deleted;
      parts =
          ap (λ l. (is.done ++ deleted) ++ l) pushed ∙ with_defs-behind (is.done ++ deleted) left defs
          ∙ ap (λ l. with_defs l defs) (append_assoc is.done deleted left ∙ ap (λ l. is.done ++ l) parts ∙ is.parts)
          ∙ sym (next_is (Some defs) some);
      deletes = Deletes-further old now later is.done deleted is.deletes true deletes;
    }

    -- the last line
    pub IsDeleting-done : (later : Book S) → Deletes true now later ids
        → Deletes true old later (unmarked_below graph marks key)
    IsDeleting-done later deletes = subst (λ (all : List ℕ). Deletes true old later all) is.parts
        (Deletes-further old now later is.done ids is.deletes true deletes)

    pub IsDeleting-torn : (later : Book S) → DeletesTorn now later ids
        → DeletesTorn old later (unmarked_below graph marks key)
    IsDeleting-torn later torn = subst (λ (all : List ℕ). DeletesTorn old later all) is.parts
        (DeletesTorn-further old now later is.done ids is.deletes torn)

-- What is left once those below a key are deleted.
module _ (graph : Graph) (marks : List Bool) (old new : State) (key : ℕ) (state : new
    ≡ record { live = without_clauses old.live (unmarked_below graph marks key); top = old.top }) where
  rest_is : (id : ℕ) → clause_at new.live id ≡ clause_at (without_clauses old.live (unmarked_below graph marks key)) id
  rest_is id = ap (λ (s : State). clause_at s.live id) state

  pub deleted_gone : ((k : ℕ) (branch : Branch) → branch_at graph k ≡ Some branch → k < key) → (id : ℕ) → DefinesUnmarked graph marks id
      → clause_at new.live id ≡ None
  deleted_gone below id d = rest_is id ∙ gone_without old.live (unmarked_below graph marks key) id
      (defines_below graph marks key id d (below d.key d.branch d.stands))

  pub deleted_stay : (id : ℕ) → (DefinesUnmarked graph marks id → ⊥) → clause_at new.live id ≡ clause_at old.live id
  deleted_stay id other =
      rest_is id ∙ stays_without old.live (unmarked_below graph marks key) id
      (false_from_ne_true (is_member nat_eq (unmarked_below graph marks key) id)
      (λ is. other (below_defines graph marks key id is).defines))

  pub deleted_are : AreOfUnmarked graph marks (unmarked_below graph marks key)
  deleted_are id there = (below_defines graph marks key id (list_any-from_Contains nat_eq_equiv id (unmarked_below graph marks key)
      there)).defines

  pub deleted_among : KeepsClauses new.live old.live
  deleted_among id clause is = was_without old.live (unmarked_below graph marks key) id clause (sym (rest_is id) ∙ is)
