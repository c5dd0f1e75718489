-- The words in which the inner functions of src/change.rt promise their parts: a run of elements, and a list with a run of it
-- replaced. No public promise is put in them. Assumes nothing.
use Rattle.std.specs.Prelude.{◌≡◌, cond, Option, Some, None, List, [], ◌∷◌, ◌++◌, map, ℕ, ◌+◌, ◌-◌, ◌≤◌, eqb, length, take, drop}
use Rattle.wire.specs.Part.{splice, part}
use Rattle.elements.specs.declared.Extensions.{Extensions}
use Rattle.elements.specs.declared.Run.{Run}
use Rattle.elements.specs.Elements.{Element, data_of, size_of, sum, elements_of}

-- these are `count` elements, of which the arrays hold the ids and lengths
pub record Shown (es : List Element) (count : ℕ) (ids lens : List ℕ) : Type 0 where
  pub many : length es ≡ count
  pub names : map (λ (e : Element). e.id) es ≡ take count ids
  pub sizes : map size_of es ≡ take count lens

-- the run is of these elements, and its data lie where theirs do
pub record Stands (r : Run) (es : List Element) : Type 0 where
  pub within : r.first + r.count ≤ length es
  pub from : r.at ≡ length (data_of (take r.first es))
  pub to : r.at + r.len ≡ length (data_of (take (r.first + r.count) es))

-- a record in the domain, and a run of its elements
pub record Holds (x : Extensions) (r : Run) : Type 0 where
  pub few : x.count ≤ 32
  pub fits : sum (take x.count x.lens) ≤ 1024
  pub stands : Stands r (elements_of x)

-- all elements in front of a run; all behind it, of `count` in all with `total` data bytes
abbrev pub before : Run → Run
before r = record { first = 0; count = r.first; at = 0; len = r.at }

abbrev pub behind : Run → ℕ → ℕ → Run
behind r count total =
    record {
      first = r.first + r.count;
      count = count - (r.first + r.count);
      at = r.at + r.len;
      len = total - (r.at + r.len);
    }

-- no element, at a record's end
abbrev pub end : Extensions → Run
end x = record { first = x.count; count = 0; at = sum (take x.count x.lens); len = 0 }

-- the first element of an id, of elements from the index `first` and the place `at` on
abbrev pub run_of : ℕ → ℕ → ℕ → List Element → Option Run
run_of id first at [] = None
run_of id first at (e ∷ es) =
    cond (eqb e.id id) (Some (record { first = first; count = 1; at = at; len = size_of e }))
    (run_of id (first + 1) (at + size_of e) es)

abbrev pub element : ℕ → List ℕ → Element
element id bytes = record { id = id; bytes = bytes }

-- the list with others in the place of a run
abbrev pub replaced_at : Run → List Element → List Element → List Element
replaced_at r new es = take r.first es ++ (new ++ drop (r.first + r.count) es)

-- a run of `old` behind the elements of x, whose packed data have `used` bytes
unfoldable pub kept : Extensions → ℕ → Extensions → Run → Extensions
kept x used old r =
    record {
      count = x.count + r.count;
      ids = splice x.ids x.count (part old.ids r.first r.count);
      lens = splice x.lens x.count (part old.lens r.first r.count);
      bytes = splice x.bytes used (part old.bytes r.at r.len);
    }
