-- The clause is watched beside the others, which watch what they watched.
use Rattle.std.proofs.Common.{◌≡◌, ◌<◌, length, refl, sym, ap, ◌∙◌, subst, arith}
use Rattle.drat_checker.specs.Places.{Places}
use Rattle.drat_checker.specs.Watches.{AreWatched, is_in, pair_at}
use Rattle.drat_checker.proofs.Standing.{place-within}
use Rattle.drat_checker.proofs.roots.raise.Goals as goal

pub enter-requires : goal.enter-requires
enter-requires c = c.requires.last ∙ sym c.requires.kept.0.many

pub grow-requires : goal.grow-requires
grow-requires c =
    let was = c.requires in
    let next : c.args.number ≡ length was.before = was.last in
    record {
      watched = subst (λ (ps : Places). AreWatched c.enter.new.self ps) (sym was.is) (c.in_ok-enter.ensures.watched was.before was.kept.0);
      growing = record {
        before = was.before;
        last = was.last;
        is = was.is;
        derives = was.kept.1.derives;
        reasons = was.kept.1.reasons;
        units = was.kept.1.units;
        holds = was.kept.1.settled.holds;
        guarded = record {
          guarded = λ n clause x at watched m.
              let within : n < c.args.number = omega (arith, place-within was.before n clause at, next) in
              was.kept.1.settled.guarded.guarded n clause x at
              (ap (λ p. is_in p x) (sym (c.in_ok-enter.ensures.others n within)) ∙ watched) m;
        };
        unfalse = λ nothing x watched.
            c.in_ok-enter.ensures.unfalse c.args.clause.now refl nothing x
            (ap (λ n. is_in (pair_at c.enter.new.self.pairs.items n) x) next ∙ watched);
      };
    }
