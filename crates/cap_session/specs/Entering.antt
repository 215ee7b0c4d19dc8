-- What a call enters into a session.
use Rattle.std.specs.Prelude.{ℕ, nat_lt, List, [], ◌∷◌, ◌++◌, unwrap_or, Result, Ok, Err, if◌then◌else◌}
use Rattle.cap_scope.specs.Tree.{tree_of}
use Rattle.cap_session.specs.declared.refusal.Mode.{Mode}
use Rattle.cap_session.specs.Roster.{RosterValue, answerer_in}
use Rattle.cap_session.specs.Scope.{Opening}

-- the opening of a library that is loaded
abbrev pub opening_in : RosterValue → List ℕ → Mode → Opening
opening_in r name mode = record { mode = mode; tree = tree_of r.deps (unwrap_or (answerer_in r name) 0) }

-- the first object that was loaded, where one was
abbrev pub start_between : ℕ → ℕ → List ℕ
start_between before now = if nat_lt before now then before ∷ [] else []

-- a list with more behind it, unless the call was refused
abbrev pub with_on_ok : {A T E : Type 0} → Result T E → List A → List A → List A
with_on_ok (Ok _) xs more = xs ++ more
with_on_ok (Err _) xs more = xs
