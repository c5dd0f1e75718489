-- Extension elements as the paper speaks of them, a list, and the record with its arrays that they are laid out in. Assumes nothing.
use Rattle.std.specs.Prelude.{Bool, ◌&&◌, List, [], ◌∷◌, ◌++◌, map, ℕ, ◌+◌, ◌≤◌, leb, length, take, drop, set}
use Rattle.wire.specs.Part.{pad_to, splice}
use Rattle.elements.specs.declared.Extensions.{Extensions}

-- an extension element
pub record Element : Type 0 where
  pub id : ℕ
  pub bytes : List ℕ

-- the elements' data, packed in order
abbrev pub data_of : List Element → List ℕ
data_of [] = []
data_of (e ∷ es) = e.bytes ++ data_of es

abbrev pub size_of : Element → ℕ
size_of e = length e.bytes

-- "32 extension elements holding 1,024 data bytes in all": there is room for one more, of `len` bytes
abbrev pub room_for : List Element → ℕ → Bool
room_for es len = leb (length es + 1) 32 && leb (length (data_of es) + len) 1024

-- ---- the record

-- the elements whose ids and lengths these are, their data packed in order
abbrev pub unpack : List ℕ → List ℕ → List ℕ → List Element
unpack [] lens bytes = []
unpack (i ∷ ids) [] bytes = []
unpack (i ∷ ids) (l ∷ lens) bytes = record { id = i; bytes = take l bytes } ∷ unpack ids lens (drop l bytes)

unfoldable pub elements_of : Extensions → List Element
elements_of x = unpack (take x.count x.ids) (take x.count x.lens) x.bytes

-- the places of the arrays beyond the counts are zeros
unfoldable pub lay_elements : List Element → Extensions
lay_elements es =
    record {
      count = length es;
      ids = pad_to 32 (map (λ (e : Element). e.id) es);
      lens = pad_to 32 (map size_of es);
      bytes = pad_to 1024 (data_of es);
    }

-- one element more: what a record becomes whose packed data have `used` bytes
unfoldable pub pushed : Extensions → ℕ → ℕ → List ℕ → Extensions
pushed x used id more =
    record {
      count = x.count + 1;
      ids = set x.ids x.count id;
      lens = set x.lens x.count (length more);
      bytes = splice x.bytes used more;
    }

-- the sum of a list of lengths
abbrev pub sum : List ℕ → ℕ
sum [] = 0
sum (n ∷ ns) = n + sum ns

-- "counts and lengths in a record that lie within its arrays": the first `count` elements of these do
pub record Packed (count : ℕ) (ids lens bytes : List ℕ) : Type 0 where
  pub places : count ≤ length ids
  pub lengths : count ≤ length lens
  pub packed : sum (take count lens) ≤ length bytes

-- the first `count` elements of the arrays of a record
abbrev pub elements_in : ℕ → List ℕ → List ℕ → List ℕ → List Element
elements_in count ids lens bytes = unpack (take count ids) (take count lens) bytes
