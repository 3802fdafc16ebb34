-- One number more, from the end.
use Rattle.std.proofs.Common.{◌≡◌, ◌+◌, ◌-◌, ◌<◌, ℕ, List, [], ◌∷◌, ◌++◌, length, take, reverse, get_or, sym, ap, ◌∙◌, arith}
use Rattle.std.proofs.Common.{append_assoc}
use Rattle.std.proofs.lemmas.List.{append-nil, reverse-append, take_all, take_more}
use Rattle.drat_checker.proofs.hints.push_turned.Goals as goal

pub ids-init : goal.ids-init
ids-init c = record {
  within = omega arith;
  all = ap (λ (l : List ℕ). c.args.hints.now ++ reverse l) (take_all (length c.args.found.now) c.args.found.now (omega arith));
}

-- the last of those that are left is the next
turn : (hints found new : List ℕ) (left i x : ℕ) → left ≡ i + 1 → i < length found → x ≡ get_or found i x → new ≡ hints ++ x ∷ []
    → new ++ reverse (take i found) ≡ hints ++ reverse (take left found)
turn hints found new left i x is within at pushed =
    ap (λ (l : List ℕ). l ++ reverse (take i found)) pushed
    ∙ append_assoc hints (x ∷ []) (reverse (take i found))
    ∙ ap (λ (l : List ℕ). hints ++ l) (sym (reverse-append (take i found) (x ∷ [])))
    ∙ ap (λ y. hints ++ reverse (take i found ++ y ∷ [])) at
    ∙ ap (λ (l : List ℕ). hints ++ reverse l) (sym (take_more found i x within))
    ∙ ap (λ n. hints ++ reverse (take n found)) (sym is)

pub ids-preserved : goal.ids-preserved
ids-preserved c =
    let so_far = c.ids.invariant in
    let i = c.ids.left - 1 in
    let more : c.ids.left ≡ i + 1 = omega arith in
    record {
      within = omega (arith, so_far.within);
      all = turn c.ids.hints c.args.found.now c.push.new.self c.ids.left i c.index-found-left.result more
          (omega (arith, so_far.within)) c.index-found-left.is c.in_ok-push.ensures.ok ∙ so_far.all;
    }

pub returns : goal.returns
returns c =
    let none : c.ids.left ≡ 0 = omega arith in
    sym (append-nil c.ids.hints) ∙ ap (λ n. c.ids.hints ++ reverse (take n c.args.found.now)) (sym none) ∙ c.ids.invariant.all
