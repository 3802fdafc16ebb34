-- A plain pair and one that is kept are answered with nothing changed in the table.
use Rattle.std.proofs.Common.{◌≡◌, ◌∙◌, Option, None, Some, Ok, Contains, ap, refl, subst, sym}
use Rattle.std.specs.Prelude.{IfSome}
use Rattle.node_table.specs.declared.node.Node.{Node}
use Rattle.operations.specs.Entries.{Disjunction}
use Rattle.quantify.specs.OrCache.{disjunction, disjunctions}
use Rattle.quantify.specs.Disjunction.{Disjoins, disjunction_of}
use Rattle.quantify.proofs.Disjunctions.{not_plain, only_disjunction}
use Rattle.quantify.proofs.Lists.{fits_same, have_same, remembers_all, remembers_looked}
use Rattle.quantify.proofs.Running.{runs_none}
use Rattle.quantify.proofs.disjoin.answer.Goals as goal

same_some : (x y : Node) → Some x ≡ Some y → x ≡ y
same_some x y is = cc

no_found : (x : Node) → None ≡ Some x → ⊥
no_found x is = cc

pub returns-in-Some-clause-answers : goal.returns-in-Some-clause-answers
returns-in-Some-clause-answers g c =
    let table = c.args.table.now in
    let cache = c.args.cache.now in
    let list = disjunctions cache in
    let u = c.args.u in
    let v = c.args.v in
    let w = c.in-Some.w in
    let can = c.requires.can in
    let found = c.in-Some.ensures.disjoined table.graph can.first can.second in record {
      runs = runs_none c.steps_law.ensures c.subfunction_law.ensures table list (disjunction_of table.graph u v) can.sound list can.fits w;
      remembers = remembers_all disjunction cache.results;
      disjoined = found;
      reachable = c.reach_law.ensures.none_made table.graph w;
      kept = λ differ first second. absurd (not_plain table.graph u v w differ first second c.in-Some.ensures.plain);
      known = λ other there. (
        ap Ok (only_disjunction c.canonical_law.ensures table.graph can.sound.tied.reduced u v w other found
            (can.fits.each (Disjunction u v other) there).1),
        refl,
        have_same list,
      );
      plain = λ other plain. (ap Ok (same_some w other (c.in-Some.ensures.exact other plain)), refl, refl);
    }

pub returns-clause-answers : goal.returns-clause-answers
returns-clause-answers g c =
    let table = c.args.table.now in
    let cache = c.args.cache.now in
    let list = disjunctions cache in
    let after = c.look.new.self in
    let look = c.look.ensures.looked in
    let looked = look.leaves in
    let u = c.args.u in
    let v = c.args.v in
    let can = c.requires.can in
    let apart = c.in_default.ensures.disjoined in
    let inner = apart table.graph can.first can.second in
    elim (c.look.result) as (λ (r : Option Node). c.look.result ≡ r
    → IfSome r (λ w. Disjoins table cache u v table after (Ok w))) [
      | None ↦ λ is. tt
      | Some w ↦ λ is.
          let kept : Contains (disjunctions after) (Disjunction u v w) = subst
          (λ (r : Option Node). IfSome r (λ x. Contains (disjunctions after) (Disjunction u v x))) is look.found in
          let there = looked.same.back (Disjunction u v w) kept in record {
            runs = runs_none c.steps_law.ensures c.subfunction_law.ensures table list (disjunction_of table.graph u v) can.sound
                (disjunctions after)
                (fits_same c.entry_law.ensures table list (disjunctions after) looked.same can.fits) w;
            remembers = remembers_looked disjunction cache.results after.results looked;
            disjoined = (can.fits.each (Disjunction u v w) there).1;
            reachable = c.reach_law.ensures.none_made table.graph w;
            kept = λ differ first second. kept;
            known = λ other had. (ap Ok (same_some w other (sym is ∙ look.exact other had)), refl, looked.same);
            plain = λ other plain. absurd (not_plain table.graph u v other (c.in_default.ensures.differ refl) inner.0 inner.1 plain);
          }
    ] refl

pub returns-clause-unknown : goal.returns-clause-unknown
returns-clause-unknown g c missed =
    let apart = c.in_default.ensures.disjoined in
    let inner = apart c.args.table.now.graph c.requires.can.first c.requires.can.second in (
      c.look.ensures.missed missed,
      record {
        differ = c.in_default.ensures.differ refl;
        first = inner.0;
        second = inner.1;
        none = λ w there. no_found w (sym missed ∙ c.look.ensures.looked.exact w there);
      },
    )
