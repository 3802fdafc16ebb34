-- What a call of a runner leaves of the terms in hand, and what several calls do.
use Rattle.std.proofs.Common.{◌≡◌, ◌≢◌, ◌⊎◌, ◌∙◌, suc, Bool, List, [], ◌∷◌, Contains}
use Rattle.std.proofs.Common.{Ok, Err, Result}
use Rattle.std.proofs.Common.{refl, sym, ap, subst, arith, inl, inr}
use Rattle.std.specs.Prelude.{IfOk, IsTrue}
use Rattle.std.specs.Option.{option_to_list}
use Rattle.std.proofs.lemmas.List.Elements.{Contains-append_left, Contains-append_right}
use Rattle.cnf_base.specs.Truth.{Assignment}
use Rattle.node_table.specs.declared.error.TableError.{TableError}
use Rattle.node_table.specs.declared.error.TableError.TheVariants.{WriteFault}
use Rattle.node_table.specs.declared.node.Node.{Node}
use Rattle.node_table.specs.declared.node.Node.TheVariants.{False, True, Inner}
use Rattle.node_table.specs.Diagram.{is_node}
use Rattle.node_table.specs.HandedOn.{no_error}
use Rattle.node_table.specs.Laws.{Growth, StepByStep}
use Rattle.node_table.specs.Progress.{Continues, error_of}
use Rattle.node_table.specs.Table.{TableState}
use Rattle.node_table.specs.Value.{by_level, value_of}
use Rattle.bdd_terms.specs.declared.held.HeldTerm.{HeldTerm}
use Rattle.bdd_terms.specs.declared.runner.Runner.{Runner}
use Rattle.bdd_terms.specs.declared.term.Term.{Term}
use Rattle.bdd_terms.specs.Caches.{sizes}
use Rattle.bdd_terms.specs.Runner.{IsListed, IsRunner, Releases, true_term}
use Rattle.bdd_terms.specs.Takes.{Takes as Call}
use Rattle.parity_terms.specs.Owned.{Owns}
use Rattle.parity_terms.specs.Steps.{Goes, Keeps, Takes, with_given}
use Rattle.parity_terms.proofs.Owned.{owned_good, owns_given, owns_released}

pub among_more : (held first : HeldTerm) (terms : List HeldTerm) → Contains terms held → Contains (first ∷ terms) held
among_more held first terms there = (suc there.0, omega (arith, there.1), there.2)

-- fewer terms
pub keeps_fewer : {S : Type 0} (held : HeldTerm) (terms : List HeldTerm) (old new : Runner S) → Keeps (held ∷ terms) old new
    → Keeps terms old new
keeps_fewer held terms old new keeps = record {
  formula = keeps.formula;
  limits = keeps.limits;
  sizes = keeps.sizes;
  order = keeps.order;
  origin = keeps.origin;
  refuted = keeps.refuted;
  stand = λ one there. keeps.stand one (among_more one held terms there);
  values = λ one there. keeps.values one (among_more one held terms there);
}

-- of no terms
pub keeps_none : {S : Type 0} (terms : List HeldTerm) (old new : Runner S) → Keeps terms old new → Keeps [] old new
keeps_none terms old new keeps = record {
  formula = keeps.formula;
  limits = keeps.limits;
  sizes = keeps.sizes;
  order = keeps.order;
  origin = keeps.origin;
  refuted = keeps.refuted;
  stand = λ held there. absurd (omega (arith, there.1));
  values = λ held there. absurd (omega (arith, there.1));
}

-- nothing happened
pub keeps_itself : {S : Type 0} (runner : Runner S) → Keeps [] runner runner
keeps_itself runner = record {
  formula = refl;
  limits = refl;
  sizes = refl;
  order = refl;
  origin = refl;
  refuted = λ was. was;
  stand = λ held there. absurd (omega (arith, there.1));
  values = λ held there. absurd (omega (arith, there.1));
}

-- one call after another
module _ {S : Type 0} (steps : StepByStep S) (terms : List HeldTerm) (old mid new : Runner S) where
  pub keeps_further : Keeps terms old mid → Keeps terms mid new → Keeps terms old new
  keeps_further first second = record {
    formula = second.formula ∙ first.formula;
    limits = second.limits ∙ first.limits;
    sizes = second.sizes ∙ first.sizes;
    order = second.order ∙ first.order;
    origin = second.origin ∙ first.origin;
    refuted = λ was. second.refuted (first.refuted was);
    stand = λ held there. second.stand held there;
    values = λ held there a. second.values held there a ∙ first.values held there a;
  }

  pub goes_further : Goes terms old mid → Goes terms mid new → Goes terms old new
  goes_further first second = record {
    runner = second.runner;
    owns = second.owns;
    refuted = second.refuted ∙ first.refuted;
    keeps = keeps_further first.keeps second.keeps;
    continues = steps.go_on old.terms.table mid.terms.table new.terms.table first.continues second.continues;
  }

  pub takes_further : (holds : Assignment → Bool) (result : Result Term TableError) → Goes terms old mid → Takes terms holds mid new result
      → Takes terms holds old new result
  takes_further holds result goes takes = record {
    goes_on = takes.goes_on;
    stands = takes.stands;
    value = takes.value;
    owns = takes.owns;
    refutes = takes.refutes;
    unrefuted = λ whole some. takes.unrefuted whole some ∙ goes.refuted;
    keeps = λ whole. keeps_further goes.keeps (takes.keeps whole);
    leaves = steps.leave old.terms.table mid.terms.table new.terms.table (error_of result) goes.continues takes.leaves;
  }

-- terms that are owned stand
out_stands : {S : Type 0} (runner : Runner S) → IsRunner runner → (held : HeldTerm)
    → (held ≡ true_term) ⊎ Contains runner.terms.out.items held → IsTrue (is_node runner.terms.table.graph held.node)
out_stands runner is held (inl true_one) =
    subst (λ (h : HeldTerm). IsTrue (is_node runner.terms.table.graph h.node)) (sym true_one) refl
out_stands runner is held (inr among) =
    (is.proved held (Contains-append_left runner.terms.out.items (option_to_list runner.kept) held among)).stands

pub owned_stands : {S : Type 0} (growth : Growth) (old new : Runner S) → IsRunner old → (terms : List HeldTerm)
    → Owns terms old.terms.out.items → (held : HeldTerm) → Contains terms held → IsTrue (is_node old.terms.table.graph held.node)
owned_stands growth old new runner terms owns held there =
    out_stands old runner held (owned_good held terms old.terms.out.items owns there)

-- what is there of the empty clause behind a call that gives a term
refuted_left : {S : Type 0} (old new : Runner S) (result : Result Term TableError)
    → IfOk result (λ term. term.held.node ≡ False → IsTrue new.refuted)
    → (IfOk result (λ term. term.held.node ≢ False) → new.refuted ≡ old.refuted) → IsTrue old.refuted → IsTrue new.refuted
refuted_left old new (Err error) refutes same was = same tt ∙ was
refuted_left old new (Ok term) refutes same was = by_node term.held.node refl
  where
    by_node : (node : Node) → term.held.node ≡ node → IsTrue new.refuted
    by_node False is = refutes is
    by_node True is = same (λ none. let e : True ≡ False = sym is ∙ none in cc) ∙ was
    by_node (Inner key) is = same (λ none. let e : Inner key ≡ False = sym is ∙ none in cc) ∙ was

-- the term that a call gave stands
given_stands : {S : Type 0} (before : List HeldTerm) (runner : Runner S) → IsRunner runner → (held : HeldTerm)
    → IsListed before runner.terms.out.items held → IsTrue (is_node runner.terms.table.graph held.node)
given_stands before runner is held (inl none) = out_stands runner is held (inl none.0)
given_stands before runner is held (inr one) =
    out_stands runner is held (inr (subst (λ (l : List HeldTerm). Contains l held) (sym one.1)
    (Contains-append_right before (held ∷ []) held (0, omega arith, refl))))

-- A call that gives a term.
module _ {S : Type 0} (old new : Runner S) (terms : List HeldTerm) (owns : Owns terms old.terms.out.items) (holds : Assignment → Bool) where
  owns_left : (result : Result Term TableError) → Call holds old new result → result ≢ Err WriteFault
      → Owns (with_given terms result) new.terms.out.items
  owns_left (Ok term) call whole = owns_given term.held terms old.terms.out.items new.terms.out.items owns call.listed
  owns_left (Err error) call whole = subst (Owns terms) (sym (call.refused whole refl)) owns

  stands_left : (result : Result Term TableError) → Call holds old new result
      → IfOk result (λ term. IsTrue (is_node new.terms.table.graph term.held.node))
  stands_left (Ok term) call = given_stands old.terms.out.items new (call.goes_on no_error) term.held call.listed
  stands_left (Err error) call = tt

  keeps_left : (result : Result Term TableError) → Call holds old new result → result ≢ Err WriteFault → Keeps terms old new
  keeps_left result call whole =
      let kept = call.keeps whole in
      let good : (held : HeldTerm) → Contains terms held → (held ≡ true_term) ⊎ Contains old.terms.out.items held =
      λ held there. owned_good held terms old.terms.out.items owns there in
      record {
        formula = call.same.formula;
        limits = call.same.limits;
        sizes = call.same.sizes;
        order = call.order;
        origin = call.same.origin;
        refuted = refuted_left old new result call.refutes (call.unrefuted whole);
        stand = λ held there. out_stands new (call.goes_on whole) held (kept.good held (good held there));
        values = λ held there a. kept.values held (good held there) a;
      }

  pub takes_of : (result : Result Term TableError) → Call holds old new result → Takes terms holds old new result
  takes_of result call = record {
    goes_on = call.goes_on;
    stands = stands_left result call;
    value = call.value;
    owns = owns_left result call;
    refutes = call.refutes;
    unrefuted = call.unrefuted;
    keeps = keeps_left result call;
    leaves = call.leaves;
  }

-- a term is released
module _ {S : Type 0} (old new : Runner S) (runner : IsRunner old) (held : HeldTerm) (terms : List HeldTerm)
    (owns : Owns (held ∷ terms) old.terms.out.items) (releases : Releases held old new) where
  pub goes_released : Goes terms old new
  goes_released = record {
    runner = releases.goes_on;
    owns = owns_released held terms old.terms.out.items new.terms.out.items owns releases.out;
    refuted = releases.refuted;
    keeps = record {
      formula = releases.formula;
      limits = releases.limits;
      sizes = ap sizes releases.caches;
      order = ap (λ (t : TableState S). t.graph.order) releases.table;
      origin = releases.origin;
      refuted = λ was. releases.refuted ∙ was;
      stand = λ one there.
          subst (λ (t : TableState S). IsTrue (is_node t.graph one.node)) (sym releases.table)
          (out_stands old runner one
          (owned_good one (held ∷ terms) old.terms.out.items owns (among_more one held terms there)));
      values = λ one there a.
          ap (λ (t : TableState S). value_of t.graph (by_level t.graph.order a) one.node) releases.table;
    };
    continues = releases.continues;
  }

-- where nothing changed but what isn't asked for
module _ {S : Type 0} (old new : Runner S) (runner : IsRunner old) (terms : List HeldTerm) (owns : Owns terms old.terms.out.items) where
  pub none_reclaimed : new.terms.table ≡ old.terms.table → IsRunner new → new.terms.out ≡ old.terms.out → new.formula ≡ old.formula
      → new.limits ≡ old.limits → new.refuted ≡ old.refuted → sizes new.terms.caches ≡ sizes old.terms.caches
      → Continues old.terms.table new.terms.table → Goes terms old new
  none_reclaimed same goes_on out formula limits refuted same_sizes continues = record {
    runner = goes_on;
    owns = subst (Owns terms) (sym (ap (λ v. v.items) out)) owns;
    refuted = refuted;
    keeps = record {
      formula = formula;
      limits = limits;
      sizes = same_sizes;
      order = ap (λ (t : TableState S). t.graph.order) same;
      origin = ap (λ (t : TableState S). t.book.origin) same;
      refuted = λ was. refuted ∙ was;
      stand = λ held there.
          subst (λ (t : TableState S). IsTrue (is_node t.graph held.node)) (sym same)
          (out_stands old runner held (owned_good held terms old.terms.out.items owns there));
      values = λ held there a.
          ap (λ (t : TableState S). value_of t.graph (by_level t.graph.order a) held.node) same;
    };
    continues = continues;
  }
