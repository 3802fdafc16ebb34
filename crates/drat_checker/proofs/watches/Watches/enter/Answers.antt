-- The pair of the next number stands behind the others, and its number in the lists of its literals.
use Rattle.std.proofs.Common.{◌≡◌, ◌+◌, true, ℕ, [], ◌∷◌, ◌++◌, length, None, sym, ap, ◌∙◌, subst, arith}
use Rattle.std.proofs.Common.{length-append}
use Rattle.std.proofs.Math.ListN.{get_or-append}
use Rattle.std.proofs.Math.Seq.{get_or-append_seam}
use Rattle.drat_checker.specs.Numbers.{has_number}
use Rattle.drat_checker.specs.Watches.{IsWatched, Pairs, all_watchers, beside, is_in, pair_at, watchers}
use Rattle.std.specs.Option.{option_copied}
use Rattle.drat_checker.proofs.Entered.{entered-watched, unfalse-in}
use Rattle.drat_checker.proofs.Watched.{each-beside, in-one}
use Rattle.drat_checker.proofs.watches.Watches.enter.Goals as goal

pub returns-clause-watched : goal.returns-clause-watched
returns-clause-watched c = λ places before.
    let pairs = c.args.self.now.pairs.items in
    let pair = c.pair_of-pair.result in
    let lists' = c.enter_pair.new.lists in
    let late = watchers c.args.self.now.late in
    let place = option_copied c.args.place in
    record {
      many = ap length c.in_ok-push.ensures.items ∙ length-append pairs (pair ∷ [])
          ∙ ap (λ n. n + 1) before.many ∙ sym (length-append places (place ∷ []));
      watched = subst (λ (ps : Pairs). IsWatched ps (beside (watchers lists') late) (places ++ place ∷ [])) (sym c.in_ok-push.ensures.items)
          (entered-watched pairs (all_watchers c.args.self.now) (beside (watchers lists') late) places place pair before.many
          c.pair_of-pair.ensures.own c.pair_of-pair.ensures.there
          (λ n x. each-beside (watchers c.args.self.now.lists) (watchers lists') late n x ((c.enter_pair.ensures.kept.kept x).kept n))
          (λ x own. in-one (watchers lists') late (length pairs) x
          (subst (λ (n : ℕ). has_number n (watchers lists' x) ≡ true) c.requires (c.in_ok-enter_pair.ensures.entered x own)))
          before.watched);
    }

pub returns-clause-others : goal.returns-clause-others
returns-clause-others c = λ n within.
    let pairs = c.args.self.now.pairs.items in
    ap (λ (ps : Pairs). pair_at ps n) c.in_ok-push.ensures.items
    ∙ get_or-append pairs (c.pair_of-pair.result ∷ []) None n (omega (arith, within, c.requires))

pub returns-clause-unfalse : goal.returns-clause-unfalse
returns-clause-unfalse c = λ clause at nothing x watched.
    let pairs = c.args.self.now.pairs.items in
    let pair = c.pair_of-pair.result in
    let last : pair_at c.push.new.self.items c.args.number ≡ pair =
    ap (λ (ps : Pairs). pair_at ps c.args.number) c.in_ok-push.ensures.items ∙ ap (pair_at (pairs ++ pair ∷ [])) c.requires
    ∙ get_or-append_seam pairs pair [] None in
    unfalse-in pair c.args.trail.now.literals x (λ p is. c.pair_of-pair.ensures.unfalse clause p at is nothing)
    (ap (λ p. is_in p x) (sym last)
    ∙ watched)
