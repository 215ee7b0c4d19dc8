-- What the numbers choose for an object: the sizes of its data, and the targets of its capabilities.
use Rattle.std.specs.Prelude.{◌≡◌, ℕ, ◌+◌, ◌/◌, ◌%◌, ◌≤◌, nat_lt, if◌then◌else◌, List, [], ◌∷◌, ◌++◌, map, length, All}
use Rattle.cap_demo.specs.declared.names.SymbolName.{SymbolName}
use Rattle.cap_demo.specs.declared.names.SymbolName.TheVariants.{Function, Datum}
use Rattle.cap_demo.specs.Numbers.{drawn, after, draws}

-- from 1 to 9000 bytes
unfoldable pub size_of : ℕ → ℕ
size_of value = 1 + value % 9000

-- how many objects a target may be of: the first six know one another alone
unfoldable pub known_objects : ℕ → ℕ
known_objects number = if nat_lt number 6 then 6 else 8

unfoldable pub data_target : ℕ → ℕ → SymbolName
data_target number value = Datum (value % known_objects number) (value / 8 % 64)

unfoldable pub function_target : ℕ → ℕ → SymbolName
function_target number value = Function (value % known_objects number)

-- 64 draws from a state for the sizes
unfoldable pub sizes_of : ℕ → List ℕ
sizes_of state = map size_of (draws 64 state)

-- 64 draws from a state for the data and one for the function that the object of a number refers to
unfoldable pub targets_of : ℕ → ℕ → List SymbolName
targets_of state number =
    map (data_target number) (draws 64 state) ++ function_target number (drawn (after 64 state)) ∷ []

-- as many sizes as an object has data, each of a datum
abbrev pub AreSizes : List ℕ → Type 0
AreSizes sizes = (length sizes ≡ 64) × All (λ size. size ≤ 9000) sizes
