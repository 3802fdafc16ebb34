-- The numbers stand behind those that there were.
use Rattle.std.proofs.Common.{ℕ, ◌+◌, ◌-◌, ◌++◌, ◌≤◌, ℤ, List, length, take, length-take, ◌∙◌, ap, arith}
use Rattle.std.proofs.lemmas.List.{with_items_is}
use borrow.Rule.Slice.PartMut.{put_mid, post_of, same_len_mid}
use Rattle.lrat_text.proofs.DraftNumbers.{put_behind}
use Rattle.lrat_text.proofs.places.Places.take_from.Goals as goal

pub returns : goal.returns
returns c =
    let places : List ℤ = c.deref_mut.result.now in
    let count : ℕ = c.self.inside.count in
    let taken : ℕ = c.numbers_on-count.result in
    let put : List ℤ = c.numbers_on-count.new.places in
    let free : ℕ = length places - count in
    let within : count ≤ length places = omega (arith, c.make_room.ensures.within, ap length c.deref_mut.ensures.value) in
    record {
      numbers = take taken put;
      took = c.numbers_on-count.ensures.took;
      behind = ap (λ (l : List ℤ). take (count + taken) l) (with_items_is c.make_room.new.places (put_mid count free places put)
          (same_len_mid count free places put c.numbers_on-count.ensures.size ∙ c.deref_mut.ensures.len))
          ∙ put_behind count taken places put (post_of count free places) within c.numbers_on-count.ensures.within
          ∙ ap (λ l. take count l ++ take taken put) c.deref_mut.ensures.value
          ∙ ap (λ l. l ++ take taken put) (c.make_room.ensures.kept ∙ c.self.view_is);
      size = length-take taken put ∙ omega (arith, c.numbers_on-count.ensures.within);
    }
