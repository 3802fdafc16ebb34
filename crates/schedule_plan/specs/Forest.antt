-- How the bucket plan is computed: the items of all buckets by numbers, first the clauses and then the results of the
-- buckets, each with the bucket that it belongs to.
use Rattle.std.specs.Prelude.{◌≡◌, ℕ, zero, suc, ◌+◌, ◌-◌, ◌<◌, ◌==◌, ◌⊎◌, Bool, true, false, ℤ, nat_abs, nat_lt, List, [], ◌∷◌, ◌++◌}
use Rattle.std.specs.Prelude.{length, map, Option, None, Some, slice_index, slice_index_or, if◌then◌else◌}
use Rattle.std.specs.List.{All, Contains}
use Rattle.std.specs.List.Sorted.{IsNonDecreasingBy}
use Rattle.cnf_base.specs.Formula.{Formula}
use Rattle.schedule_plan.specs.declared.occurrence.Occurrence.{Occurrence}
use Rattle.schedule_plan.specs.declared.links.Links.{Links}
use Rattle.schedule_plan.specs.Plan.{Term, input, clause_has, clause_of_number}
use Rattle.schedule_plan.specs.Bucket.{first_place, result_of, items, moves_of_all}
use Rattle.schedule_plan.specs.declared.plan.Move.{Move}

-- the place of each variable, by its number
pub record ArePlaces (order places : List ℕ) : Type 0 where
  pub count : length places ≡ length order + 1
  pub right : (place : ℕ) → place < length order → slice_index places (slice_index_or order place 0) ≡ place

-- whether a clause, by its number from 0, holds the variable of a place
abbrev pub is_held : Formula → List ℕ → ℕ → ℕ → Bool
is_held formula order place clause = clause_has (slice_index_or order place 0) (clause_of_number formula (suc clause))

-- the literals of the first clauses, each with the place of its variable
abbrev pub occurrence_of : List ℕ → ℕ → ℤ → Occurrence
occurrence_of places clause literal = record { place = slice_index places (nat_abs literal); clause = clause }

abbrev pub occurrences_of : List ℕ → Formula → ℕ → List Occurrence
occurrences_of places formula zero = []
occurrences_of places formula (suc n) = occurrences_of places formula n ++ map (occurrence_of places n) (clause_of_number formula (suc n))

-- an occurrence is of a clause that holds the variable of its place
pub record IsOccurrence (formula : Formula) (order : List ℕ) (one : Occurrence) : Type 0 where
  pub place : one.place < length order
  pub clause : one.clause < length formula.clauses
  pub held : is_held formula order one.place one.clause ≡ true

-- all occurrences, by rising place
pub record AreOccurrences (formula : Formula) (order : List ℕ) (occurrences : List Occurrence) : Type 0 where
  pub sorted : IsNonDecreasingBy (λ one. one.place) occurrences
  pub sound : All (IsOccurrence formula order) occurrences
  pub complete : (place clause : ℕ) → place < length order → clause < length formula.clauses → is_held formula order place clause ≡ true
      → Contains occurrences (record { place = place; clause = clause })

-- the term of an item, none where its bucket is empty
unfoldable pub terms_of : Formula → List ℕ → ℕ → List Term
terms_of formula order item =
    if nat_lt item (length formula.clauses) then input (suc item) ∷ []
    else result_of (slice_index_or order (item - length formula.clauses) 0) (items formula order (item - length formula.clauses))

-- the bucket that a term belongs to; that behind the last one for none
abbrev pub bucket_of_terms : Formula → List ℕ → List Term → ℕ
bucket_of_terms formula order [] = suc (length order)
bucket_of_terms formula order (term ∷ more) = first_place formula order term

unfoldable pub bucket_of : Formula → List ℕ → ℕ → ℕ
bucket_of formula order item = bucket_of_terms formula order (terms_of formula order item)

-- the number of items
abbrev pub item_count : Formula → List ℕ → ℕ
item_count formula order = length formula.clauses + length order

pub record AreBuckets (formula : Formula) (order buckets : List ℕ) : Type 0 where
  pub count : length buckets ≡ item_count formula order
  pub right : (item : ℕ) → item < item_count formula order → slice_index buckets item ≡ bucket_of formula order item

-- the buckets before any occurrence is looked at
pub record AreFresh (formula : Formula) (order buckets : List ℕ) : Type 0 where
  pub count : length buckets ≡ item_count formula order
  pub clauses : (item : ℕ) → item < length formula.clauses → slice_index buckets item ≡ length order
  pub results : (place : ℕ) → place < length order
      → ((slice_index buckets (length formula.clauses + place) ≡ length order)
      × ((clause : ℕ) × (clause < length formula.clauses) × (is_held formula order place clause ≡ true)))
      ⊎ ((slice_index buckets (length formula.clauses + place) ≡ suc (length order))
      × ((clause : ℕ) → clause < length formula.clauses → is_held formula order place clause ≡ false))

-- the last one of the first items that a bucket has
abbrev pub last_of : List ℕ → ℕ → ℕ → Option ℕ
last_of buckets bucket zero = None
last_of buckets bucket (suc n) = if slice_index buckets n == bucket then Some n else last_of buckets bucket n

-- each bucket's last item, and for each item the one before it in its bucket
pub record AreLinks (buckets : List ℕ) (count : ℕ) (links : Links) : Type 0 where
  pub lasts : length links.last.items ≡ count
  pub befores : length links.before.items ≡ length buckets
  pub last : (bucket : ℕ) → bucket < count → slice_index_or links.last.items bucket None ≡ last_of buckets bucket (length buckets)
  pub before : (item : ℕ) → item < length buckets → slice_index_or links.before.items item None
      ≡ last_of buckets (slice_index buckets item) item

-- some list of the items' buckets is linked
pub record IsLinked (formula : Formula) (order : List ℕ) (links : Links) : Type 0 where
  pub buckets : List ℕ
  pub right : AreBuckets formula order buckets
  pub linked : AreLinks buckets (suc (suc (length order))) links

-- the terms of those of the first items that belong to a bucket
abbrev pub terms_in : Formula → List ℕ → ℕ → ℕ → List Term
terms_in formula order bucket zero = []
terms_in formula order bucket (suc n) =
    terms_in formula order bucket n ++ (if bucket_of formula order n == bucket then terms_of formula order n else [])

-- the moves that make an item
unfoldable pub moves_of_item : Formula → List ℕ → ℕ → List Move
moves_of_item formula order item = moves_of_all (terms_of formula order item)

-- the moves that conjoin the items of a bucket up to one of them, and those of several such
unfoldable pub moves_to : Formula → List ℕ → ℕ → List Move
moves_to formula order item = moves_of_all (terms_in formula order (bucket_of formula order item) (suc item))

abbrev pub moves_to_all : Formula → List ℕ → List ℕ → List Move
moves_to_all formula order [] = []
moves_to_all formula order (item ∷ more) = moves_to formula order item ++ moves_to_all formula order more

-- an item that there is, with a bucket
pub record IsItem (formula : Formula) (order : List ℕ) (item : ℕ) : Type 0 where
  pub small : item < item_count formula order
  pub there : bucket_of formula order item < suc (length order)
