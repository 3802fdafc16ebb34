-- Calls one after another: what both kept is kept, and what they added adds up.
use Rattle.std.proofs.Common.{◌≡◌, ◌+◌, ◌≤◌, ℕ, true, false, is_some, refl, sym, ap, ◌∙◌, subst, arith, inl, inr, List, [], ◌∷◌, ◌++◌}
use Rattle.std.proofs.Common.{length, Option, None, Some}
use Rattle.std.proofs.lemmas.Bool.{cases_lt}
use Rattle.std.proofs.lemmas.List.{append_assoc, append-nil}
use Rattle.cnf_base.specs.declared.step.Step.{Step}
use Rattle.lrat_rules.specs.State.{State, Live, clause_at}
use Rattle.lrat_rules.specs.Conservative.{are_conservative}
use Rattle.lrat_rules.specs.Marks.{IsWithin, in_use}
use Rattle.clause_ledger.specs.Book.{AreTold, Book, after_steps}
use Rattle.clause_ledger.specs.Told.{after_steps-append, conservative_further, told_further, told_none, told_state}
use Rattle.node_table.specs.declared.error.TableError.{TableError}
use Rattle.node_table.specs.declared.error.TableError.TheVariants.{NodeLimit, IdLimit, OutOfMemory, WriteFault}
use Rattle.node_table.specs.Diagram.{levels}
use Rattle.node_table.specs.Tied.{KeepsClauses, GivesNumbers}
use Rattle.node_table.specs.Table.{TableState, AddsNoEmpty, IsSound, Extends, last_variable, live_nodes}
use Rattle.node_table.specs.Progress.{AreStepsUpTo, Continues, BreaksOff, IsCutWithin, Leaves, Steps, StepsOrRefutes, number_limit}
use Rattle.node_table.proofs.Grown.{KeepsNodes-none, KeepsNodes-further}
use Rattle.node_table.proofs.Stands.{Grows-none}
use Rattle.node_table.proofs.Uptos.{up_to_append}
use Rattle.node_table.proofs.Since.{ComesSince-fewer, ComesSince-further}

pub some_of : {A : Type 0} (o : Option A) → is_some o ≡ true → (x : A) × (o ≡ Some x)
some_of None is = cc
some_of (Some x) is = (x, refl)

still_live : (old new : Live) → KeepsClauses old new → (id : ℕ) → is_some (clause_at old id) ≡ true → is_some (clause_at new id) ≡ true
still_live old new keeps id is = let clause = some_of (clause_at old id) is in ap is_some (keeps id clause.0 clause.1)

GivesNumbers-further : (one two three : State) → KeepsClauses two.live three.live → GivesNumbers one two → GivesNumbers two three
    → GivesNumbers one three
GivesNumbers-further one two three keeps first second = record {
  no_less = omega (arith, first.no_less, second.no_less);
  next = λ id is. elim (second.next id is) [
    | inl there ↦ first.next id there
    | inr above ↦ inr (omega (arith, above, first.no_less))
  ];
  each = λ id above within. elim (cases_lt two.top id) [
    | inl high ↦ second.each id high within
    | inr low ↦ still_live two.live three.live keeps id (first.each id above low)
  ];
}

≤-further : (a b c : ℕ) → a ≤ b → b ≤ c → a ≤ c
≤-further a b c first second = omega (arith, first, second)

module _ {S : Type 0} where
  pub Extends-further : (old mid new : TableState S) → Extends old mid → Extends mid new → Extends old new
  Extends-further old mid new first second = record {
    inputs = second.inputs ∙ first.inputs;
    nodes = KeepsNodes-further old.graph mid.graph new.graph first.nodes second.nodes;
    clauses = λ id clause is. second.clauses id clause (first.clauses id clause is);
    numbers = GivesNumbers-further old.book.state mid.book.state new.book.state second.clauses first.numbers second.numbers;
    more = first.more ++ second.more;
    retired = second.retired ∙ ap (λ (ids : List ℕ). ids ++ second.more) first.retired ∙ append_assoc old.retired first.more second.more;
  }

  pub Extends-none : (table : TableState S) → IsSound table → Extends table table
  Extends-none table sound =
      let grows = Grows-none table.book.state sound.tied.numbers in
      record {
        inputs = refl;
        nodes = KeepsNodes-none table.graph;
        clauses = grows.clauses;
        numbers = grows.gives;
        more = [];
        retired = sym (append-nil table.retired);
      }

  IsWithin-further : (old mid : TableState S) → mid.graph.order ≡ old.graph.order → (nodes : ℕ) → number_limit mid ≤ number_limit old
      → (state : State)
      → IsWithin (levels mid.graph) (number_limit mid) nodes state → IsWithin (levels old.graph) (number_limit old) nodes state
  IsWithin-further old mid order nodes less state within = record {
    numbers = ≤-further state.top (number_limit mid) (number_limit old) within.numbers less;
    nodes = subst (λ (o : List ℕ). in_use (length o) state ≤ nodes) order within.nodes;
  }

  -- so far within the limit: the limit is as far as before
  limit_further : (old mid : TableState S) → mid.book.limit ≡ old.book.limit → mid.book.state.top ≤ number_limit old → number_limit mid
      ≤ number_limit old
  limit_further old mid same within = omega (arith, same, within)

  -- steps that follow others lead where both lead
  pub leads_further : (old mid : Book S) (first second : List Step) → AreTold true old mid first → after_steps old.state (first ++ second)
      ≡ after_steps mid.state second
  leads_further old mid first second told = after_steps-append old.state first second
      ∙ ap (λ (s : State). after_steps s second) (sym (told_state told))

  pub Continues-none : (table : TableState S) → IsSound table → Continues table table
  Continues-none table sound = record {
    sound = sound;
    order = refl;
    inputs = refl;
    max_nodes = refl;
    limit = refl;
    more = [];
    told = told_none table.book table.book.spare sound.in_step;
    variables = tt;
    conserves = refl;
    no_less = omega arith;
    numbers = omega arith;
    since = ComesSince-fewer table.book.state table.book.state (λ id clause is. is);
  }

  -- the variables that may be used stay
  variables_further : (old mid : TableState S) (before : Continues old mid) → (more : List Step) → AreStepsUpTo (last_variable mid) more
      → AreStepsUpTo (last_variable old) (before.more ++ more)
  variables_further old mid before more after = up_to_append (last_variable old) before.more more before.variables
      (subst (λ (n : ℕ). AreStepsUpTo n more) (λ i. length (before.order i) + before.max_nodes i) after)

  -- and so does what follows from the formula
  conserves_further : (old mid : TableState S) (before : Continues old mid) → (more : List Step)
      → are_conservative (levels mid.graph) mid.book.state more ≡ true
      → are_conservative (levels old.graph) old.book.state (before.more ++ more) ≡ true
  conserves_further old mid before more after = conservative_further (levels old.graph) old.book.state before.more more before.conserves
      (subst (λ (s : State). are_conservative (levels old.graph) s more ≡ true) (told_state before.told)
      (subst (λ (o : List ℕ). are_conservative (length o) mid.book.state more ≡ true) before.order after))

  pub Continues-further : (old mid new : TableState S) → Continues old mid → Continues mid new → Continues old new
  Continues-further old mid new before after =
      let within = limit_further old mid before.limit before.numbers in
      record {
        sound = after.sound;
        order = after.order ∙ before.order;
        inputs = after.inputs ∙ before.inputs;
        max_nodes = after.max_nodes ∙ before.max_nodes;
        limit = after.limit ∙ before.limit;
        more = before.more ++ after.more;
        told = told_further true old.book mid.book new.book before.more after.more before.told after.told;
        variables = variables_further old mid before after.more after.variables;
        conserves = conserves_further old mid before after.more after.conserves;
        no_less = omega (arith, before.no_less, after.no_less);
        numbers = ≤-further new.book.state.top (number_limit mid) (number_limit old) after.numbers within;
        since = ComesSince-further old.book.state mid.book.state new.book.state before.no_less after.no_less before.since after.since;
      }

  IsCutWithin-further : (old mid new : TableState S) (before : Continues old mid) → (steps : List Step) → (nodes : ℕ)
      → IsCutWithin (levels mid.graph) (number_limit mid) nodes mid.book.state new.book.state steps
      → IsCutWithin (levels old.graph) (number_limit old) nodes old.book.state new.book.state (before.more ++ steps)
  IsCutWithin-further old mid new before steps nodes cut =
      let within = limit_further old mid before.limit before.numbers in
      record {
        earlier = before.more ++ cut.earlier;
        last = cut.last;
        parts = ap (λ (more : List Step). before.more ++ more) cut.parts ∙ sym (append_assoc before.more cut.earlier (cut.last ∷ []));
        before = cut.before;
        leads = leads_further old.book mid.book before.more cut.earlier before.told ∙ cut.leads;
        no_less = cut.no_less;
        from = omega (arith, before.no_less, cut.from);
        since = ComesSince-further old.book.state mid.book.state cut.before before.no_less cut.from before.since cut.since;
        within_before = IsWithin-further old mid before.order nodes within cut.before cut.within_before;
        within_after = IsWithin-further old mid before.order nodes within new.book.state cut.within_after;
      }

  BreaksOff-after : (old mid new : TableState S) → Continues old mid → BreaksOff mid new → BreaksOff old new
  BreaksOff-after old mid new before after =
      let within = limit_further old mid before.limit before.numbers in
      record {
        more = before.more ++ after.more;
        told = told_further false old.book mid.book new.book before.more after.more before.told after.told;
        variables = variables_further old mid before after.more after.variables;
        cut = IsCutWithin-further old mid new before after.more (live_nodes new.graph) after.cut;
        few = subst (λ (n : ℕ). live_nodes new.graph ≤ n) before.max_nodes after.few;
        out_of_step = after.out_of_step;
        reduced = after.reduced;
        order = after.order ∙ before.order;
        max_nodes = after.max_nodes ∙ before.max_nodes;
        limit = after.limit ∙ before.limit;
        no_less = omega (arith, before.no_less, after.no_less);
        numbers = ≤-further new.book.state.top (number_limit mid) (number_limit old) after.numbers within;
        since = ComesSince-further old.book.state mid.book.state new.book.state before.no_less after.no_less before.since after.since;
      }

  pub leaves_further : (old mid new : TableState S) (error : Option TableError)
      → Continues old mid
      → Leaves mid new error → Leaves old new error
  leaves_further old mid new None before after = Continues-further old mid new before after
  leaves_further old mid new (Some NodeLimit) before after =
      (Continues-further old mid new before after.0, after.1)
  leaves_further old mid new (Some IdLimit) before after =
      (Continues-further old mid new before after.0, after.1)
  leaves_further old mid new (Some OutOfMemory) before after =
      Continues-further old mid new before after
  leaves_further old mid new (Some WriteFault) before after =
      BreaksOff-after old mid new before after

  NoEmpty-further : (old mid new : TableState S) → AddsNoEmpty old mid → AddsNoEmpty mid new → AddsNoEmpty old new
  NoEmpty-further old mid new before after = record { each = λ id is. before.each id (after.each id is) }

  pub Steps-further : (old mid new : TableState S) (few more : ℕ) (error : Option TableError)
      → Steps old mid few None
      → Steps mid new more error → Steps old new (few + more) error
  Steps-further old mid new few more error before after = record {
    leaves = leaves_further old mid new error before.leaves after.leaves;
    extends = Extends-further old mid new before.extends after.extends;
    adds = omega (arith, before.adds, after.adds);
    no_empty = NoEmpty-further old mid new before.no_empty after.no_empty;
  }

  pub Steps-refute : (old mid new : TableState S) (few more : ℕ) (error : Option TableError)
      → Steps old mid few None
      → StepsOrRefutes mid new more error → StepsOrRefutes old new (few + more) error
  Steps-refute old mid new few more error before after = record {
    leaves = leaves_further old mid new error before.leaves after.leaves;
    extends = Extends-further old mid new before.extends after.extends;
    adds = omega (arith, before.adds, after.adds);
  }

  pub Steps-anyhow : (old new : TableState S) (count : ℕ) (error : Option TableError)
      → Steps old new count error → StepsOrRefutes old new count error
  Steps-anyhow old new count error steps = record { leaves = steps.leaves; extends = steps.extends; adds = steps.adds }

  pub Steps-no_empty : (old new : TableState S) (count : ℕ) (error : Option TableError)
      → StepsOrRefutes old new count error → AddsNoEmpty old new → Steps old new count error
  Steps-no_empty old new count error steps none = record {
    leaves = steps.leaves;
    extends = steps.extends;
    adds = steps.adds;
    no_empty = none;
  }

  pub Steps-at_most : (old new : TableState S) (few more : ℕ) (error : Option TableError) → few ≤ more
      → Steps old new few error → Steps old new more error
  Steps-at_most old new few more error less steps = record {
    leaves = steps.leaves;
    extends = steps.extends;
    adds = omega (arith, less, steps.adds);
    no_empty = steps.no_empty;
  }

  -- nothing was changed
  pub Steps-none : (table : TableState S) → IsSound table → Steps table table 0 None
  Steps-none table sound = record {
    leaves = Continues-none table sound;
    extends = Extends-none table sound;
    adds = omega arith;
    no_empty = record { each = λ id is. is };
  }

  pub Steps-no_memory : (table : TableState S) → IsSound table
      → Steps table table 0 (Some OutOfMemory)
  Steps-no_memory table sound = record {
    leaves = Continues-none table sound;
    extends = Extends-none table sound;
    adds = omega arith;
    no_empty = record { each = λ id is. is };
  }

  -- a clause more is retired
  Continues-retired : (table : TableState S) (id : ℕ) → IsSound table
      → IsSound (record table { retired = table.retired ++ id ∷ [] })
      → Continues table (record table { retired = table.retired ++ id ∷ [] })
  Continues-retired table id sound still =
      let none = Continues-none table sound in
      record {
        sound = still;
        order = none.order;
        inputs = none.inputs;
        max_nodes = none.max_nodes;
        limit = none.limit;
        no_less = none.no_less;
        numbers = none.numbers;
        since = none.since;
        more = none.more;
        told = none.told;
        variables = none.variables;
        conserves = none.conserves;
      }

  pub Steps-retired : (table : TableState S) (id : ℕ) → IsSound table
      → IsSound (record table { retired = table.retired ++ id ∷ [] })
      → Steps table (record table { retired = table.retired ++ id ∷ [] }) 0 None
  Steps-retired table id sound still =
      let none = Extends-none table sound in
      record {
        leaves = Continues-retired table id sound still;
        extends = record {
          inputs = none.inputs;
          nodes = none.nodes;
          clauses = none.clauses;
          numbers = none.numbers;
          more = id
              ∷ [];
          retired = refl;
        };
        adds = omega arith;
        no_empty = record { each = λ id is. is };
      }
