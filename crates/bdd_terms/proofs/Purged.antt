-- Purging all caches, one after another: what the first leaves of the entries fits for the next, and all of them as one list
-- are purged.
use Rattle.std.specs.Prelude.{◌++◌, Bool, List}
use Rattle.std.proofs.lemmas.List.Elements.{Contains-append_left, Contains-append_right}
use Rattle.node_table.specs.Table.{TableState, IsSound}
use Rattle.operations.specs.Entries.{Entry, AreApart, Fits, Fitting}
use Rattle.operations.specs.Purged.{IsPurged, Purging}
use Rattle.bdd_terms.proofs.AllCaches.{AreParts, AreUnnamed, conjunctions_apart, conjunctions_fit, names_none}

-- no clause is named by both, where the others name none
apart_unnamed : (one rest : List Entry) → AreUnnamed rest → AreApart one rest
apart_unnamed one rest none id first other = names_none other.0 id (none other.0 other.1) other.2

module _ {S : Type 0} (purging : Purging S) (fitting : Fitting S) (marks : List Bool) where
  -- the first ones of a list fit, and where they were purged, so do the rest
  first_fit : (table : TableState S) (one rest : List Entry) → Fits table (one ++ rest) → Fits table one
  first_fit table one rest fits = fitting.fewer table one (one ++ rest) (λ entry there. Contains-append_left one rest entry there) fits

  rest_fit : (old new : TableState S) (one left rest : List Entry) → IsSound old → Fits old (one ++ rest) → AreApart one rest
      → IsPurged old new marks one left → Fits new rest
  rest_fit old new one left rest sound fits apart purged =
      fitting.fewer new rest (left ++ rest) (λ entry there. Contains-append_right left rest entry there)
      (purging.beside old new marks one left rest sound fits apart purged).0

  module _ (old : TableState S) (ands one two three : List Entry) (parts : AreParts ands one (two ++ three)) (sound : IsSound old)
      (fits : Fits old (ands ++ (one ++ (two ++ three)))) where
    -- the conjunctions were purged
    module _ (first : TableState S) (ands_left : List Entry) (by_first : IsPurged old first marks ands ands_left) where
      sound_first : IsSound first
      sound_first = purging.sound old first marks ands ands_left sound (conjunctions_fit fitting old ands one (two ++ three) fits) by_first

      fits_first : Fits first (one ++ (two ++ three))
      fits_first = rest_fit old first ands ands_left (one ++ (two ++ three)) sound fits
          (conjunctions_apart old ands one (two ++ three) parts fits) by_first

      pub implications_still : Fits first one
      implications_still = first_fit first one (two ++ three) fits_first

      -- and the implications
      module _ (second : TableState S) (one_left : List Entry) (by_second : IsPurged first second marks one one_left) where
        sound_second : IsSound second
        sound_second = purging.sound first second marks one one_left sound_first implications_still by_second

        fits_second : Fits second (two ++ three)
        fits_second = rest_fit first second one one_left (two ++ three) sound_first fits_first
            (apart_unnamed one (two ++ three) parts.third) by_second

        pub quantifications_still : Fits second two
        quantifications_still = first_fit second two three fits_second

        -- and the quantifications
        module _ (third : TableState S) (two_left : List Entry) (by_third : IsPurged second third marks two two_left) where
          pub disjunctions_still : Fits third three
          disjunctions_still = rest_fit second third two two_left three sound_second fits_second
              (apart_unnamed two three (λ entry there. parts.third entry (Contains-append_right two three entry there))) by_third

          -- and the disjunctions
          pub all_purged : (new : TableState S) (three_left : List Entry) → IsPurged third new marks three three_left
              → IsPurged old new marks (ands ++ (one ++ (two ++ three))) (ands_left ++ (one_left ++ (two_left ++ three_left)))
          all_purged new three_left by_fourth =
              purging.joined old first new marks ands ands_left (one ++ (two ++ three)) (one_left ++ (two_left ++ three_left)) by_first
              (purging.joined first second new marks one one_left (two ++ three) (two_left ++ three_left) by_second
              (purging.joined second third new marks two two_left three three_left by_third by_fourth))
