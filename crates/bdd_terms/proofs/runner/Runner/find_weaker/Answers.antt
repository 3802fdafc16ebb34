-- The term of a node that a term implies is found and put on the list; or none is.
use Rattle.std.proofs.Common.{◌≡◌, Bool, true, List, [], ◌∷◌, Option, Ok, Err, refl, ap, subst, inl, ◌∙◌}
use Rattle.std.specs.Prelude.{IfOk, IfSome}
use Rattle.node_table.specs.HandedOn.{handed_on}
use Rattle.node_table.specs.declared.error.TableError.{TableError}
use Rattle.node_table.specs.declared.error.TableError.TheVariants.{NodeLimit, OutOfMemory}
use Rattle.node_table.specs.Value.{IsSubfunction, Levels, value_of}
use Rattle.bdd_terms.specs.declared.held.HeldTerm.{HeldTerm}
use Rattle.bdd_terms.specs.declared.runner.Runner.{Runner}
use Rattle.bdd_terms.specs.Caches.{all_entries}
use Rattle.bdd_terms.specs.Finds.{Finds}
use Rattle.bdd_terms.specs.Units.{GivesUnit}
use Rattle.bdd_terms.specs.Parity.{Implies, always, holds_or, node_holds, some_or}
use Rattle.bdd_terms.specs.Runner.{IsListed, true_term}
use Rattle.bdd_terms.proofs.Given.{gives_none, gives_one, nothing_found, true_unit}
use Rattle.bdd_terms.proofs.Kept.{good_proved}
use Rattle.bdd_terms.proofs.Weakened.{weakened_error, weakened_none, weakened_some}
use Rattle.bdd_terms.proofs.runner.Runner.find_weaker.Goals as goal

no_memory_limit : ◌≡◌ {A = TableError} OutOfMemory NodeLimit → ⊥
no_memory_limit is = cc

pub weaker-requires-clause-proved : goal.weaker-requires-clause-proved
weaker-requires-clause-proved g c = good_proved c.args.self.now c.requires.runner c.args.u.now.held c.requires.good

pub returns-then-is_err : goal.returns-then-is_err
returns-then-is_err g c =
    let old = c.args.self.now in
    let over = c.requires.runner.over in
    let graph = old.terms.table.graph in
    let function : Levels → Bool = λ a. value_of graph a c.args.node in
    let holds = node_holds graph c.args.node in
    let operands = c.args.u.now.held ∷ [] in
    record {
      weakens = weakened_error c.args.u.now.held c.args.node old (record old { terms = record old.terms { out = c.reserve.new.self } }) refl OutOfMemory
          no_memory_limit
          (gives_none c.growth_law.ensures c.steps_law.ensures function holds operands old c.requires.runner old.terms.table old.terms.caches OutOfMemory
          (nothing_found c.steps_law.ensures c.subfunction_law.ensures function holds operands old.terms.table old.terms.caches over.sound over.fits)
          (λ whole terms has. has) (record old { terms = record old.terms { out = c.reserve.new.self } }) refl c.reserve.ensures.items (Err OutOfMemory)
          refl) (Err OutOfMemory) refl;
    }

pub returns-in_err-held : goal.returns-in_err-held
returns-in_err-held g c =
    let old = c.args.self.now in
    let came = c.in_err-held.field-0.0 in
    let mid = c.weaker.new.table in
    let caches = c.weaker.new.caches in
    let graph = old.terms.table.graph in
    let new = record old { terms = record old.terms { table = mid; caches = caches; out = c.reserve.new.self } } in
    record {
      weakens = weakened_error c.args.u.now.held c.args.node old new c.weaker.ensures.nodes came
          (λ limit. c.in_err-held.ensures.no_node_limit (ap Err limit))
          (gives_none c.growth_law.ensures c.steps_law.ensures (λ a. value_of graph a c.args.node) (node_holds graph c.args.node)
          (c.args.u.now.held ∷ []) old c.requires.runner mid caches came c.in_err-held.ensures.finds c.in_err-held.ensures.refused new refl
          c.reserve.ensures.items (Err came) refl) _ (handed_on _ came came c.from_residual.ensures.1 refl);
    }

pub returns-in_default : goal.returns-in_default
returns-in_default g c =
    let old = c.args.self.now in
    let mid = c.weaker.new.table in
    let caches = c.weaker.new.caches in
    let graph = old.terms.table.graph in
    let function : Levels → Bool = λ a. value_of graph a c.args.node in
    let operands = c.args.u.now.held ∷ [] in
    let new = record old { terms = record old.terms { table = mid; caches = caches; out = c.reserve.new.self } } in
    let found : Finds (IsSubfunction function) function (λ a. true) operands old.terms.table mid old.terms.caches caches (Ok true_term) =
    subst (λ (o : Option HeldTerm). Finds (IsSubfunction function) function (holds_or {E = TableError} (Ok o) (node_holds graph c.args.node)) operands
    old.terms.table mid old.terms.caches caches (some_or true_term (Ok o))) c.in_default.is c.in_ok-held.ensures.finds in
    let own : GivesUnit old.terms.table mid (all_entries old.terms.caches) (all_entries caches) [] true_term.unit =
    subst (λ (o : Option HeldTerm). IfOk {E = TableError} (some_or true_term (Ok o)) (λ held. GivesUnit old.terms.table mid
    (all_entries old.terms.caches) (all_entries caches) [] held.unit)) c.in_default.is c.in_ok-held.ensures.own in
    record {
      weakens = weakened_none c.args.u.now.held c.args.node old new c.weaker.ensures.nodes
          (c.in_ok-held.ensures.none (ap Ok c.in_default.is)) c.reserve.ensures.items
          (gives_one c.growth_law.ensures c.steps_law.ensures function (λ a. true) operands old c.requires.runner mid caches always found own new refl
          (inl (refl, c.reserve.ensures.items)) (λ is. cc) (λ some. refl));
    }

pub place-requires-clause-true_alone : goal.place-requires-clause-true_alone
place-requires-clause-true_alone g c is =
    let old = c.args.self.now in
    let mid = c.weaker.new.table in
    let caches = c.weaker.new.caches in
    let graph = old.terms.table.graph in
    let function : Levels → Bool = λ a. value_of graph a c.args.node in
    let found : Finds (IsSubfunction function) function (node_holds graph c.args.node) (c.args.u.now.held ∷ []) old.terms.table mid
    old.terms.caches caches (Ok c.in-Some.held) =
    subst (λ (o : Option HeldTerm). Finds (IsSubfunction function) function (holds_or {E = TableError} (Ok o) (node_holds graph c.args.node))
    (c.args.u.now.held ∷ []) old.terms.table mid old.terms.caches caches (some_or true_term (Ok o))) c.in-Some.is c.in_ok-held.ensures.finds in
    true_unit mid c.in-Some.held.node c.in-Some.held.unit is found.term.proved

pub returns : goal.returns
returns g c =
    let old = c.args.self.now in
    let mid = c.weaker.new.table in
    let caches = c.weaker.new.caches in
    let graph = old.terms.table.graph in
    let function : Levels → Bool = λ a. value_of graph a c.args.node in
    let operands = c.args.u.now.held ∷ [] in
    let held = c.in-Some.held in
    let found : Finds (IsSubfunction function) function (node_holds graph c.args.node) operands old.terms.table mid old.terms.caches caches (Ok held) =
    subst (λ (o : Option HeldTerm). Finds (IsSubfunction function) function (holds_or {E = TableError} (Ok o) (node_holds graph c.args.node)) operands
    old.terms.table mid old.terms.caches caches (some_or true_term (Ok o))) c.in-Some.is c.in_ok-held.ensures.finds in
    let own : GivesUnit old.terms.table mid (all_entries old.terms.caches) (all_entries caches) [] held.unit =
    subst (λ (o : Option HeldTerm). IfOk {E = TableError} (some_or true_term (Ok o)) (λ h. GivesUnit old.terms.table mid
    (all_entries old.terms.caches) (all_entries caches) [] h.unit)) c.in-Some.is c.in_ok-held.ensures.own in
    let at : held.node ≡ c.args.node = subst (λ (o : Option HeldTerm). IfSome o (λ h. h.node ≡ c.args.node)) c.in-Some.is c.in_ok-held.ensures.node in
    record {
      weakens = weakened_some c.args.u.now.held c.args.node old c.place.new.self
          (ap (λ (r : Runner g.row.S.Denot). r.terms.table.graph) c.place.ensures.same ∙ c.weaker.ensures.nodes) (record { held = held }) at
          (subst (λ (o : Option HeldTerm). IfSome o (λ h. Implies graph c.args.u.now.held.node c.args.node)) c.in-Some.is
          c.in_ok-held.ensures.implied)
          (gives_one c.growth_law.ensures c.steps_law.ensures function (node_holds graph c.args.node) operands old c.requires.runner mid caches
          (record { held = held }) found own c.place.new.self c.place.ensures.same
          (subst (λ (items : List HeldTerm). IsListed items c.place.new.self.terms.out.items held) c.reserve.ensures.items c.place.ensures.listed)
          c.place.ensures.refutes c.place.ensures.unrefuted);
    }
