-- The first element of an id: found, replaced, taken out. "Later sets replace the first element of that id or append. Delete keeps
-- the others' order." Assumes nothing.
use Rattle.std.specs.Prelude.{◌≡◌, cond, List, [], ◌∷◌, ◌++◌, ℕ, ◌+◌, eqb, length}
use Rattle.elements.specs.Elements.{Element}

-- no element, or one whose data begin at a place of the packed data
pub data Found : Type 0 where
  absent : Found
  at : (place len : ℕ) → Found

-- the elements' data begin at `place`
abbrev pub find : ℕ → ℕ → List Element → Found
find id place [] = absent
find id place (e ∷ es) = cond (eqb e.id id) (at place (length e.bytes)) (find id (place + length e.bytes) es)

abbrev pub replace : ℕ → List ℕ → List Element → List Element
replace id bytes [] = []
replace id bytes (e ∷ es) = cond (eqb e.id id) (record { id = id; bytes = bytes } ∷ es) (e ∷ replace id bytes es)

abbrev pub remove : ℕ → List Element → List Element
remove id [] = []
remove id (e ∷ es) = cond (eqb e.id id) es (e ∷ remove id es)

abbrev pub append : ℕ → List ℕ → List Element → List Element
append id bytes es = es ++ (record { id = id; bytes = bytes } ∷ [])

-- ---- what the laws speak of

-- no element has the id
abbrev pub Absent : ℕ → List Element → Type 0
Absent id [] = Unit
Absent id (e ∷ es) = (e.id ≡ id → ⊥) × Absent id es

-- the first element of an id, the others in front of it and the others behind it
pub record First (id : ℕ) (es : List Element) : Type 0 where
  pub front : List Element
  pub held : Element
  pub back : List Element
  pub whole : es ≡ front ++ (held ∷ back)
  pub others : Absent id front
  pub named : held.id ≡ id
