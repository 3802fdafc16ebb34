-- A runner between two calls: the terms that were out are, with their values. One call behind another, and a reclamation.
use Rattle.std.proofs.Common.{◌≡◌, ◌⊎◌, ◌∙◌, ℕ, Bool, List, [], ◌∷◌, Contains, None, Some, Ok, Err, Result, refl, sym, ap, subst, inl, inr}
use Rattle.std.specs.Prelude.{IsErrAnd, IsTrue}
use Rattle.std.proofs.lemmas.List.Elements.{Contains-append_left}
use Rattle.cnf_base.specs.Truth.{Assignment}
use Rattle.node_table.specs.declared.error.TableError.{TableError}
use Rattle.node_table.specs.declared.error.TableError.TheVariants.{NodeLimit, OutOfMemory, WriteFault}
use Rattle.node_table.specs.Diagram.{Graph, KeepsNodes, is_node}
use Rattle.node_table.specs.HandedOn.{no_error, same_error}
use Rattle.node_table.specs.Laws.{Growth, StepByStep}
use Rattle.node_table.specs.Progress.{Continues}
use Rattle.node_table.specs.Refused.{no_nodes_left}
use Rattle.node_table.specs.Value.{Levels, by_level, value_of}
use Rattle.bdd_terms.specs.declared.held.HeldTerm.{HeldTerm}
use Rattle.bdd_terms.specs.declared.runner.Runner.{Runner}
use Rattle.bdd_terms.specs.declared.term.Term.{Term}
use Rattle.bdd_terms.specs.Full.{IsFull}
use Rattle.bdd_terms.specs.Runner.{Gives, IsGood, IsListed, IsRunner, IsSameRun, nodes_of}
use Rattle.bdd_terms.specs.Takes.{GivesBack, KeepsTerms, Takes}
use Rattle.bdd_terms.specs.Tidy.{LeavesReached}
use Rattle.bdd_terms.proofs.Kept.{good_proved}
use Rattle.bdd_terms.proofs.Reclaimed.{in_map}

-- a list that is longer has what was there
pub good_listed : {S : Type 0} (old new : Runner S) (held : HeldTerm) → IsListed old.terms.out.items new.terms.out.items held
    → (other : HeldTerm) → IsGood old other → IsGood new other
good_listed old new held listed other (inl is) = inl is
good_listed old new held (inl same) other (inr among) = inr (subst (λ (l : List HeldTerm). Contains l other) (sym same.1) among)
good_listed old new held (inr more) other (inr among) =
    inr (subst (λ (l : List HeldTerm). Contains l other) (sym more.1)
    (Contains-append_left old.terms.out.items (held ∷ []) other among))

pub good_same : {S : Type 0} (old new : Runner S) → new.terms.out.items ≡ old.terms.out.items → (other : HeldTerm) → IsGood old other
    → IsGood new other
good_same old new same other (inl is) = inl is
good_same old new same other (inr among) = inr (subst (λ (l : List HeldTerm). Contains l other) (sym same) among)

-- where nodes stay, terms keep their values
pub keeps_by : {S : Type 0} → Growth → (old new : Runner S) → IsRunner old → KeepsNodes old.terms.table.graph new.terms.table.graph
    → ((held : HeldTerm) → IsGood old held → IsGood new held) → KeepsTerms old new
keeps_by growth old new runner nodes good = record {
  good = good;
  values = λ held is a.
      growth.value old.terms.table.graph new.terms.table.graph runner.over.sound.tied.reduced nodes
      (by_level new.terms.table.graph.order a) held.node (good_proved old runner held is).stands
      ∙ (λ i. value_of old.terms.table.graph (by_level (nodes.order i) a) held.node);
}

-- what a reclamation leaves
keeps_reached : {S : Type 0} (old new : Runner S)
    → LeavesReached old.terms.table.graph new.terms.table.graph (nodes_of old.terms.out.items)
    → new.terms.out.items ≡ old.terms.out.items → KeepsTerms old new
keeps_reached old new reached same = record {
  good = good_same old new same;
  values = λ held is a.
      reached.value (by_level new.terms.table.graph.order a) held.node (stands held is)
      ∙ (λ i. value_of old.terms.table.graph (by_level (reached.order i) a) held.node);
}
  where
    stands : (held : HeldTerm) → IsGood old held → IsTrue (is_node new.terms.table.graph held.node)
    stands held (inl is) = subst (λ (h : HeldTerm). IsTrue (is_node new.terms.table.graph h.node)) (sym is) refl
    stands held (inr among) = reached.stand held.node (in_map (λ (h : HeldTerm). h.node) old.terms.out.items held among)

-- where the graph and the terms are as they were
pub keeps_same : {S : Type 0} (old new : Runner S) → new.terms.table.graph ≡ old.terms.table.graph
    → ((held : HeldTerm) → IsGood old held → IsGood new held) → KeepsTerms old new
keeps_same old new same good = record {
  good = good;
  values = λ held is a. (λ i. value_of (same i) (by_level (same i).order a) held.node);
}

pub keeps_further : {S : Type 0} (old mid new : Runner S) → KeepsTerms old mid → KeepsTerms mid new → KeepsTerms old new
keeps_further old mid new one other = record {
  good = λ held is. other.good held (one.good held is);
  values = λ held is a. other.values held (one.good held is) a ∙ one.values held is a;
}

pub same_further : {S : Type 0} (old mid new : Runner S) → IsSameRun old mid → IsSameRun mid new → IsSameRun old new
same_further old mid new one other = record {
  formula = other.formula ∙ one.formula;
  limits = other.limits ∙ one.limits;
  kept = other.kept ∙ one.kept;
  refusals = other.refusals ∙ one.refusals;
  sizes = other.sizes ∙ one.sizes;
  origin = other.origin ∙ one.origin;
}

-- The runner goes on with the terms that were out.
pub record Rests {S : Type 0} (old new : Runner S) : Type 0 where
  pub runner : IsRunner new
  pub out : new.terms.out.items ≡ old.terms.out.items
  pub refuted : new.refuted ≡ old.refuted
  pub keeps : KeepsTerms old new
  pub same : IsSameRun old new
  pub order : new.terms.table.graph.order ≡ old.terms.table.graph.order
  pub continues : Continues old.terms.table new.terms.table

pub rests_further : {S : Type 0} → StepByStep S → (old mid new : Runner S) → Rests old mid → Rests mid new → Rests old new
rests_further steps old mid new one other = record {
  runner = other.runner;
  out = other.out ∙ one.out;
  refuted = other.refuted ∙ one.refuted;
  keeps = keeps_further old mid new one.keeps other.keeps;
  same = same_further old mid new one.same other.same;
  order = other.order ∙ one.order;
  continues = steps.go_on old.terms.table mid.terms.table new.terms.table one.continues other.continues;
}

-- the limit of nodes is no failed write
pub nodes_whole : {T : Type 0} → ◌≡◌ {A = Result T TableError} (Err NodeLimit) (Err WriteFault) → ⊥
nodes_whole is = no_nodes_left (same_error is)

module _ {S : Type 0} (growth : Growth) (old new : Runner S) (runner : IsRunner old) (function : Levels → Bool)
    (holds : Assignment → Bool) (operands : List HeldTerm) where
  -- the first try met the limit of nodes
  pub rests_at_limit : (found : Result Term TableError) → found ≡ Err NodeLimit → Gives function holds operands old new found → Rests old new
  rests_at_limit found limit given =
      let gives = subst (λ (r : Result Term TableError). Gives function holds operands old new r) limit given in
      let out = gives.refused nodes_whole refl in
      record {
        runner = gives.goes_on nodes_whole;
        out = out;
        refuted = gives.unrefuted nodes_whole tt;
        keeps = keeps_by growth old new runner gives.nodes (good_same old new out);
        same = gives.same;
        order = gives.nodes.order;
        continues = gives.leaves.0;
      }

  -- or it is all that is done
  pub takes_found : (found : Result Term TableError) → (found ≡ Err NodeLimit → IsFull new) → Gives function holds operands old new found
      → Takes holds old new found
  takes_found (Ok term) full gives = record {
    goes_on = gives.goes_on;
    value = gives.term.value;
    listed = gives.listed;
    refused = gives.refused;
    refutes = gives.refutes;
    unrefuted = gives.unrefuted;
    keeps = λ whole. keeps_by growth old new runner gives.nodes (good_listed old new term.held gives.listed);
    same = gives.same;
    order = gives.nodes.order;
    leaves = gives.leaves;
    full = full;
  }
  takes_found (Err error) full gives = record {
    goes_on = gives.goes_on;
    value = tt;
    listed = tt;
    refused = gives.refused;
    refutes = tt;
    unrefuted = gives.unrefuted;
    keeps = λ whole. keeps_by growth old new runner gives.nodes (good_same old new (gives.refused whole refl));
    same = gives.same;
    order = gives.nodes.order;
    leaves = gives.leaves;
    full = full;
  }

-- a reclamation
pub rests_back : {S : Type 0} (old new : Runner S) (count : ℕ) → GivesBack old new (Ok count) → Rests old new
rests_back old new count back =
    let out = ap (λ v. v.items) back.out in
    record {
      runner = back.goes_on no_error;
      out = out;
      refuted = back.refuted;
      keeps = keeps_reached old new back.reached out;
      same = back.same;
      order = back.reached.order;
      continues = back.leaves;
    }

-- an error that is handed on
pub takes_handed : {S : Type 0} (holds : Assignment → Bool) (old new : Runner S) (came : TableError) (r : Result Term TableError)
    → IsErrAnd r (λ e. e ≡ came) → Takes holds old new (Err came) → Takes holds old new r
takes_handed holds old new came (Ok term) is takes = absurd is
takes_handed holds old new came (Err e) is takes = subst (λ (e : TableError). Takes holds old new (Err e)) (sym is) takes

-- no reclamation meets the limit of nodes
pub none_at_limit : {S T : Type 0} (old new : Runner S) (came : TableError) → GivesBack old new (Err came)
    → ◌≡◌ {A = Result T TableError} (Err came) (Err NodeLimit) → ⊥
none_at_limit old new came back is = by_error (same_error is) back.error
  where
    by_error : came ≡ NodeLimit → (came ≡ OutOfMemory) ⊎ (came ≡ WriteFault) → ⊥
    by_error limit (inl other) = let no : NodeLimit ≡ OutOfMemory = sym limit ∙ other in cc
    by_error limit (inr other) = let no : NodeLimit ≡ WriteFault = sym limit ∙ other in cc

module _ {S : Type 0} (steps : StepByStep S) (old mid new : Runner S) (rests : Rests old mid) where
  -- the reclamation failed
  pub takes_unreclaimed : (holds : Assignment → Bool) (came : TableError) → GivesBack mid new (Err came) → Takes holds old new (Err came)
  takes_unreclaimed holds came back = record {
    goes_on = λ whole. back.goes_on (λ is. whole (ap Err (same_error is)));
    value = tt;
    listed = tt;
    refused = λ whole is. out ∙ rests.out;
    refutes = tt;
    unrefuted = λ whole some. back.refuted ∙ rests.refuted;
    keeps = λ whole. keeps_further old mid new rests.keeps (keeps_same mid new back.kept.0 (good_same mid new out));
    same = same_further old mid new rests.same back.same;
    order = ap (λ (graph : Graph). graph.order) back.kept.0 ∙ rests.order;
    leaves = steps.leave old.terms.table mid.terms.table new.terms.table (Some came) rests.continues back.leaves;
    full = λ is. absurd (none_at_limit mid new came back is);
  }
    where
      out : new.terms.out.items ≡ mid.terms.out.items
      out = ap (λ v. v.items) back.out

  -- another call follows
  pub takes_behind : (before after : Assignment → Bool) → ((a : Assignment) → after a ≡ before a) → (result : Result Term TableError)
      → Takes after mid new result → Takes before old new result
  takes_behind before after same (Ok term) takes = record {
    goes_on = takes.goes_on;
    value = λ a. takes.value a ∙ same a;
    listed = subst (λ (l : List HeldTerm). IsListed l new.terms.out.items term.held) rests.out takes.listed;
    refused = λ whole is. takes.refused whole is ∙ rests.out;
    refutes = takes.refutes;
    unrefuted = λ whole some. takes.unrefuted whole some ∙ rests.refuted;
    keeps = λ whole. keeps_further old mid new rests.keeps (takes.keeps whole);
    same = same_further old mid new rests.same takes.same;
    order = takes.order ∙ rests.order;
    leaves = steps.leave old.terms.table mid.terms.table new.terms.table None rests.continues takes.leaves;
    full = takes.full;
  }
  takes_behind before after same (Err error) takes = record {
    goes_on = takes.goes_on;
    value = tt;
    listed = tt;
    refused = λ whole is. takes.refused whole is ∙ rests.out;
    refutes = tt;
    unrefuted = λ whole some. takes.unrefuted whole some ∙ rests.refuted;
    keeps = λ whole. keeps_further old mid new rests.keeps (takes.keeps whole);
    same = same_further old mid new rests.same takes.same;
    order = takes.order ∙ rests.order;
    leaves = steps.leave old.terms.table mid.terms.table new.terms.table (Some error) rests.continues takes.leaves;
    full = takes.full;
  }
