-- What the open frames of an operation wait for, from the top, and how much they still have to do.
use Rattle.std.proofs.Common.{◌≡◌, ◌<◌, ◌≤◌, ◌+◌, ◌-◌, ℕ, zero, suc, List, [], ◌∷◌, Option, None, Some, Result, Ok, Err, ap, refl, sym}
use Rattle.std.proofs.Common.{subst, arith}
use Rattle.std.specs.Prelude.{IsErrAnd}
use Rattle.node_table.specs.declared.error.TableError.{TableError}
use Rattle.node_table.specs.declared.error.TableError.TheVariants.{OutOfMemory}
use Rattle.node_table.specs.Diagram.{levels}
use Rattle.node_table.specs.HandedOn.{handed_on}
use Rattle.node_table.specs.Table.{TableState}
use Rattle.operations.specs.declared.frames.Frame.{Frame}
use Rattle.operations.specs.declared.frames.Reply.{Reply}
use Rattle.operations.specs.declared.frames.Reply.TheVariants.{Open, Give}
use Rattle.operations.specs.declared.frames.Turn.{Turn}
use Rattle.operations.specs.declared.frames.Turn.TheVariants.{Ask, Answer as Answered}
use Rattle.operations.specs.Machine.{AwaitsClose, AwaitsLow, Calls, HighCame, IsAnswer, IsNext, IsOpened, LowCame, Outcome, ThenLow}

abbrev pub frame_of : {Parts Answer : Type 0} → Parts → Option Answer → Frame Parts Answer
frame_of parts high = record { parts = parts; high = high }

-- what holds of an error holds of the result that hands it on
pub handed : {S Cache Answer : Type 0} (rest : Outcome S Cache Answer) (now : TableState S) (cache : Cache)
    (result : Result Answer TableError) (error : TableError) → IsErrAnd result (λ e. e ≡ error)
    → rest now cache (Err error) → rest now cache result
handed rest now cache result error is failed = subst (rest now cache) (sym (handed_on result error error is refl)) failed

-- How many turns there may be over so many levels: a frame is opened, has its high side, and is closed.
abbrev pub turns : ℕ → ℕ
turns zero = 0
turns (suc levels) = turns levels + turns levels + 4

most_turns : (few more : ℕ) → few ≤ more → turns few ≤ turns more
most_turns zero more h = omega arith
most_turns (suc few) zero h = absurd (omega (arith, h))
most_turns (suc few) (suc more) h = let less : turns few ≤ turns more = most_turns few more (omega (arith, h)) in omega (arith, less)

more_turns : (few all : ℕ) → few < all → turns few + turns few + 4 ≤ turns all
more_turns few zero h = absurd (omega (arith, h))
more_turns few (suc all) h = let less : turns few ≤ turns all = most_turns few all (omega (arith, h)) in omega (arith, less)

later_turns : (few all : ℕ) → few ≤ all - 1 → turns few + turns few ≤ turns all
later_turns zero all h = omega arith
later_turns (suc few) zero h = absurd (omega (arith, h))
later_turns (suc few) (suc all) h = let less : turns (suc few) ≤ turns all = most_turns (suc few) all (omega (arith, h)) in
    omega (arith, less)

module _ {S Cache Question Parts Answer : Type 0} (calls : Calls S Cache Question Parts Answer) where
  -- an answer comes to a frame without a high side, or to one that has it
  abbrev pub Comes : Outcome S Cache Answer → Parts → Option Answer → TableState S → Cache → Answer → Type 0
  Comes rest parts None now cache found = ThenLow calls rest now cache parts found (calls.low parts found)
  Comes rest parts (Some high) now cache found = AwaitsClose calls rest now cache parts high found

  -- an error goes on to the frames below
  abbrev pub ComesTo : Outcome S Cache Answer → Frame Parts Answer → Outcome S Cache Answer
  ComesTo rest frame now cache (Err error) = rest now cache (Err error)
  ComesTo rest frame now cache (Ok found) = Comes rest frame.parts frame.high now cache found

  -- A result is given to the frames, from the top. With none left it is that of the whole call.
  abbrev pub Given : Outcome S Cache Answer → List (Frame Parts Answer) → Outcome S Cache Answer
  Given whole [] = whole
  Given whole (frame ∷ frames) = ComesTo (Given whole frames) frame

  -- A call that is to be asked: however it ends, the rest follows.
  pub record IsAsked (rest : Outcome S Cache Answer) (now : TableState S) (cache : Cache) (question : Question) : Type 0 where
    pub can : calls.can now cache question
    pub ends : (new : TableState S) (after : Cache) (result : Result Answer TableError) → calls.ends now cache question new after result
        → rest new after result

  abbrev pub IsTurn : Outcome S Cache Answer → TableState S → Cache → Turn Question Answer → Type 0
  IsTurn rest now cache (Ask question) = IsAsked rest now cache question
  IsTurn rest now cache (Answered answer) = rest now cache (Ok answer)

  -- What each turn of the loop begins with.
  abbrev pub GoesOn : Outcome S Cache Answer → List (Frame Parts Answer) → TableState S → Cache → Turn Question Answer → Type 0
  GoesOn whole frames now cache turn = IsTurn (Given whole frames) now cache turn

  -- an error is that of the whole call
  error_given : (whole : Outcome S Cache Answer) (frames : List (Frame Parts Answer)) (now : TableState S) (cache : Cache)
      (error : TableError) → Given whole frames now cache (Err error) → whole now cache (Err error)
  error_given whole [] now cache error given = given
  error_given whole (frame ∷ frames) now cache error given = error_given whole frames now cache error given

  -- What follows from one outcome follows from another that it follows from.
  module _ (one rest : Outcome S Cache Answer) (from : (new : TableState S) (after : Cache) (result : Result Answer TableError)
      → one new after result → rest new after result) where
    close_from : (now : TableState S) (cache : Cache) (parts : Parts) (high low : Answer) → AwaitsClose calls one now cache parts high low
        → AwaitsClose calls rest now cache parts high low
    close_from now cache parts high low awaits = record {
      ready = awaits.ready;
      closes = λ new after result closing. from new after result (awaits.closes new after result closing);
    }

    low_from : (now : TableState S) (cache : Cache) (parts : Parts) (high : Answer) (result : Result Answer TableError)
        → LowCame calls one parts high now cache result → LowCame calls rest parts high now cache result
    low_from now cache parts high (Err error) came = from now cache (Err error) came
    low_from now cache parts high (Ok low) came = close_from now cache parts high low came

    then_from : (now : TableState S) (cache : Cache) (parts : Parts) (high : Answer) (question : Option Question)
        → ThenLow calls one now cache parts high question → ThenLow calls rest now cache parts high question
    then_from now cache parts high None came = from now cache (Ok high) came
    then_from now cache parts high (Some question) came = record {
      refused = from now cache (Err OutOfMemory) came.refused;
      ready = came.ready;
      later = came.later;
      low = λ new after result ends. low_from new after parts high result (came.low new after result ends);
    }

    high_from : (now : TableState S) (cache : Cache) (parts : Parts) (result : Result Answer TableError)
        → HighCame calls one parts now cache result → HighCame calls rest parts now cache result
    high_from now cache parts (Err error) came = from now cache (Err error) came
    high_from now cache parts (Ok high) came = then_from now cache parts high (calls.low parts high) came

    next_from : (floor : ℕ) (now : TableState S) (cache : Cache) (reply : Result (Reply Parts Answer) TableError)
        → IsNext calls one floor now cache reply → IsNext calls rest floor now cache reply
    next_from floor now cache (Err error) next = from now cache (Err error) next
    next_from floor now cache (Ok (Give answer)) next = from now cache (Ok answer) next
    next_from floor now cache (Ok (Open parts)) next = (
      next.0,
      record {
        refused = from now cache (Err OutOfMemory) next.1.refused;
        level = next.1.level;
        ready = next.1.ready;
        later = next.1.later;
        high = λ new after result ends. high_from new after parts result (next.1.high new after result ends);
      },
    )

  -- How many turns the frames may still take, and the call that is to be asked.
  abbrev pub turns_in : ℕ → Parts → Option Answer → ℕ
  turns_in all parts None = turns (all - calls.level parts) + 3
  turns_in all parts (Some high) = 1

  abbrev pub turns_of : ℕ → List (Frame Parts Answer) → ℕ
  turns_of all [] = 0
  turns_of all (frame ∷ frames) = turns_in all frame.parts frame.high + turns_of all frames

  abbrev pub turns_next : TableState S → Turn Question Answer → ℕ
  turns_next now (Ask question) = turns (levels now.graph - calls.floor now question) + turns (levels now.graph - calls.floor now question)
      + 1
  turns_next now (Answered found) = 0

  -- The turns of the loop: a call is asked, a frame gets its high side, and one is closed.
  module _ (whole : Outcome S Cache Answer) (frames : List (Frame Parts Answer)) (now : TableState S) (cache : Cache)
      (turn : Turn Question Answer) (goes_on : GoesOn whole frames now cache turn) where
    module _ (question : Question) (is : turn ≡ Ask question) where
      asked : IsAsked (Given whole frames) now cache question
      asked = subst (λ (t : Turn Question Answer). IsTurn (Given whole frames) now cache t) is goes_on

      module _ (new : TableState S) (after : Cache) where
        replied : (reply : Result (Reply Parts Answer) TableError) → IsAnswer calls now cache question new after reply
            → IsNext calls (Given whole frames) (calls.floor now question) new after reply
        replied reply answer = next_from (calls.ends now cache question) (Given whole frames) asked.ends
            (calls.floor now question) new after reply answer

        pub ask_failed : (error : TableError) → IsAnswer calls now cache question new after (Err error) → whole new after (Err error)
        ask_failed error answer = error_given whole frames new after error (replied (Err error) answer)

        turns_were : turns_next now turn ≡ turns (levels now.graph - calls.floor now question)
            + turns (levels now.graph - calls.floor now question) + 1
        turns_were = ap (turns_next now) is

        module _ (reply : Reply Parts Answer) (answer : IsAnswer calls now cache question new after (Ok reply)) (parts : Parts)
            (was_split : reply ≡ Open parts) where
          opened : (calls.floor now question ≤ calls.level parts) × IsOpened calls (Given whole frames) new after parts
          opened = replied (Ok (Open parts)) (subst (λ (r : Reply Parts Answer). IsAnswer calls now cache question new after
              (Ok r)) was_split answer)

          pub open_refused : whole new after (Err OutOfMemory)
          open_refused = error_given whole frames new after OutOfMemory opened.1.refused

          module _ (top : List (Frame Parts Answer)) (on_top : top ≡ frame_of parts None ∷ frames) (side : Question) (is_side : side
              ≡ calls.high parts) where
            pub open_smaller : levels new.graph ≡ levels now.graph → turns_of (levels new.graph) top + turns_next new (Ask side)
                < turns_of (levels now.graph) frames + turns_next now turn
            open_smaller kept =
                let were = turns_were in
                let all : turns_of (levels new.graph) top ≡ (turns (levels new.graph - calls.level parts) + 3)
                + turns_of (levels new.graph) frames = ap (turns_of (levels new.graph)) on_top in
                let next : turns_next new (Ask side) ≡ turns_next new (Ask (calls.high parts)) = ap
                (λ (q : Question). turns_next new (Ask q)) is_side in
                let few = more_turns (levels new.graph - calls.floor new (calls.high parts)) (levels new.graph - calls.level parts)
                (omega (arith, opened.1.later, opened.1.level)) in
                let less = most_turns (levels new.graph - calls.level parts) (levels now.graph - calls.floor now question)
                (omega (arith, opened.0, kept)) in
                let below : turns_of (levels new.graph) frames ≡ turns_of (levels now.graph) frames = ap
                (λ (n : ℕ). turns_of n frames) kept in
                omega (arith, were, all, next, few, less, below)

    -- an answer for the frame on top
    module _ (found : Answer) (is : turn ≡ Answered found) (frame : Frame Parts Answer) (below : List (Frame Parts Answer))
        (was_top : frames ≡ frame ∷ below) where
      comes : (side : Option Answer) → frame.high ≡ side → Comes (Given whole below) frame.parts side now cache found
      comes side high =
          let given : Given whole frames now cache (Ok found) = subst
          (λ (t : Turn Question Answer). IsTurn (Given whole frames) now cache t) is goes_on in
          let on_top : Given whole (frame ∷ below) now cache (Ok found) = subst
          (λ (list : List (Frame Parts Answer)). Given whole list now cache (Ok found)) was_top given in
          subst (λ (h : Option Answer). Comes (Given whole below) frame.parts h now cache found) high on_top

      module _ (high : frame.high ≡ None) where
        module _ (question : Question) (asked : Some question ≡ calls.low frame.parts found) where
          awaits_low : AwaitsLow calls (Given whole below) now cache frame.parts found question
          awaits_low = subst (λ (q : Option Question). ThenLow calls (Given whole below) now cache frame.parts found q) (sym asked)
              (comes None high)

          pub low_smaller : (top : List (Frame Parts Answer)) → top ≡ frame_of frame.parts (Some found) ∷ below
              → turns_of (levels now.graph) top + turns_next now (Ask question) < turns_of (levels now.graph) frames + turns_next now turn
          low_smaller top on_top =
              let none : turns_next now turn ≡ 0 = ap (turns_next now) is in
              let had : turns_of (levels now.graph) frames ≡ turns_in (levels now.graph) frame.parts frame.high
              + turns_of (levels now.graph) below = ap (turns_of (levels now.graph)) was_top in
              let open_yet : turns_in (levels now.graph) frame.parts frame.high ≡ turns (levels now.graph - calls.level frame.parts)
              + 3 = ap (turns_in (levels now.graph) frame.parts) high in
              let all : turns_of (levels now.graph) top ≡ 1 + turns_of (levels now.graph) below = ap (turns_of (levels now.graph)) on_top in
              let few = later_turns (levels now.graph - calls.floor now question) (levels now.graph - calls.level frame.parts)
              (omega (arith, awaits_low.later)) in
              omega (arith, none, had, open_yet, all, few)

      -- a frame with both sides
      module _ (high : Answer) (has : frame.high ≡ Some high) (new : TableState S) (after : Cache) where
        pub close_failed : (error : TableError) → calls.closes now cache frame.parts high found new after (Err error)
            → whole new after (Err error)
        close_failed error closing = let awaits : AwaitsClose calls (Given whole below) now cache frame.parts high found = comes
            (Some high) has in error_given whole below new after error (awaits.closes new after (Err error) closing)
