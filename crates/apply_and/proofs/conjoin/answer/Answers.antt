-- A plain pair and one that is kept are answered with nothing changed in the table.
use Rattle.std.proofs.Common.{None, Some, Ok, arith, ap, refl, inl, subst, sym}
use Rattle.node_table.specs.declared.node.Justification.{Justification}
use Rattle.node_table.specs.declared.node.Justification.TheVariants.{Trivial}
use Rattle.node_table.specs.HandedOn.{no_error}
use Rattle.operations.specs.Caches.{IsLookedUp}
use Rattle.operations.specs.Entries.{Conjunction}
use Rattle.apply_and.specs.Cache.{Pair, entries, entry_of, same_pair}
use Rattle.apply_and.specs.Conjunction.{conjunction_of}
use Rattle.apply_and.proofs.Conjunctions.{only_answer}
use Rattle.apply_and.proofs.Made.{not_plain}
use Rattle.apply_and.proofs.Named.{no_clause, no_found, same_some}
use Rattle.apply_and.proofs.conjoin.answer.Goals as goal

pub returns-in-Some-clause-answers : goal.returns-in-Some-clause-answers
returns-in-Some-clause-answers g c =
    let table = c.args.table.now in
    let before = entries c.args.cache.now in
    let u = c.args.u in
    let v = c.args.v in
    let can = c.requires.can in record {
      call = record {
        conjoined = c.in-Some.ensures.conjoined _ _ can.first can.second;
        steps = c.steps_law.ensures.at_most _ _ _ _ _ (omega arith) (c.steps_law.ensures.none table can.sound);
        accounts = c.accounts_law.ensures.none table before _ can.sound can.fits;
        unretired = λ id is. absurd (no_clause id is);
        kept = λ differ first second. absurd (not_plain u v c.in-Some.w differ first second c.in-Some.ensures.plain);
        remembers = record { entries = λ entry there. inl there; no_fewer = omega arith; capacity = refl };
        price = c.price_law.ensures.none table c.args.cache.now.results u v _;
        made = c.subfunction_law.ensures.none_made table.graph (conjunction_of table.graph u v);
        reachable = c.reach_law.ensures.none_made table.graph c.in-Some.w;
        lacks = λ is. absurd (no_error is);
      };
      known = λ w just there.
          let same = only_answer c.canonical_law.ensures table.graph can.sound.tied.reduced table.book.state.live u v c.in-Some.w w just
          (c.in-Some.ensures.conjoined _ _ can.first can.second) (can.fits.each (Conjunction u v w just) there).1 in
          (λ i. Ok (same.0 i, same.1 i), refl, record { there = λ entry had. had; back = λ entry had. had });
      plain = λ w plain. (λ i. Ok (same_some _ _ (c.in-Some.ensures.exact w plain) i, Trivial), refl, refl);
    }

pub returns-in-None-clause-unknown : goal.returns-in-None-clause-unknown
returns-in-None-clause-unknown g c missed =
    let apart = c.in_default.ensures.conjoined in
    let looked = subst (λ (pair : Pair). IsLookedUp entry_of same_pair c.args.cache.now.results c.look.new.self.results pair None)
    c.of.ensures c.in-None.ensures.looked in (
      c.in-None.ensures.missed refl,
      record {
        differ = apart.0;
        first = apart.1;
        second = apart.2;
        none = λ w just there. no_found (w, just) (looked.exact (w, just) there);
        unused = λ used front. looked.used used front;
      },
    )

pub returns-in-Some-look-clause-answers : goal.returns-in-Some-look-clause-answers
returns-in-Some-look-clause-answers g c =
    let table = c.args.table.now in
    let cache = c.args.cache.now in
    let before = entries cache in
    let after = c.look.new.self in
    let u = c.args.u in
    let v = c.args.v in
    let found = c.in-Some-look.found in
    let w = found.0 in
    let just = c.just.result in
    let can = c.requires.can in
    let apart = c.in_default.ensures.conjoined in
    let at_pair = subst (λ (pair : Pair). IsLookedUp entry_of same_pair cache.results after.results pair (Some found))
    c.of.ensures c.in-Some-look.ensures.looked in
    let looked = subst (λ (j : Justification). IsLookedUp entry_of same_pair cache.results after.results (u, v) (Some (w, j))) (sym c.just.ensures)
    at_pair in
    let same_list = looked.leaves.same in
    let own = Conjunction u v w just in
    let there = same_list.back own looked.found in record {
      call = record {
        conjoined = (can.fits.each own there).1;
        steps = c.steps_law.ensures.at_most _ _ _ _ _ (omega arith) (c.steps_law.ensures.none table can.sound);
        accounts = c.accounts_law.ensures.same table before (entries after) _ can.sound same_list can.fits;
        unretired = λ id names. can.fits.unretired id (own, there, names);
        kept = λ differ first second. looked.found;
        remembers = record {
          entries = λ entry had. inl (same_list.there entry had);
          no_fewer = looked.leaves.no_fewer;
          capacity = looked.leaves.capacity;
        };
        price = c.price_law.ensures.looked table cache.results after.results u v apart.1 apart.2 (λ used front. looked.used used front);
        made = c.subfunction_law.ensures.none_made table.graph (conjunction_of table.graph u v);
        reachable = c.reach_law.ensures.none_made table.graph w;
        lacks = λ error. absurd (no_error error);
      };
      known = λ other also had. (ap Ok (same_some (w, just) (other, also) (looked.exact (other, also) had)), refl, same_list);
      plain = λ other plain. absurd (not_plain u v other apart.0 apart.1 apart.2 plain);
    }
