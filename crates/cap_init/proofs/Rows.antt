-- Orders and calls that are known.
use Rattle.std.specs.Prelude.{◌≡◌, [], ◌∷◌, true, refl}
use Rattle.cap_init.specs.Calls.{calls_of}
use Rattle.cap_init.specs.Post.{init_order, post_of}
use Rattle.cap_scope.specs.Chosen.{no_records}

-- a program needs x and y, and both need z
diamond : post_of ((1 ∷ 2 ∷ []) ∷ (3 ∷ []) ∷ (3 ∷ []) ∷ [] ∷ []) 0 4 ≡ 3 ∷ 1 ∷ 2 ∷ 0 ∷ []
diamond = refl

-- p needs x, x needs y, and y needs x
ring : post_of ((1 ∷ []) ∷ (2 ∷ []) ∷ (1 ∷ []) ∷ []) 0 3 ≡ 2 ∷ 1 ∷ 0 ∷ []
ring = refl

-- a library that is opened later needs one of the start, and one of its own
two_groups : init_order ((1 ∷ []) ∷ [] ∷ (1 ∷ 3 ∷ []) ∷ [] ∷ []) (0 ∷ 2 ∷ []) 4 ≡ 1 ∷ 0 ∷ 3 ∷ 2 ∷ []
two_groups = refl

-- one sentry in an array of one granule
one_call : calls_of (record no_records { arrays = record { init_at = 0x20C0; init_size = 16; fini_at = 0; fini_size = 0 } } ∷ [])
    (record { base = 0x40000000; bytes = []; words = record { granule = 0x400020C0; cap = record { base = 0x40000000; len = 0x3000; cursor = 0x40001000; perms = 0x17; flag = true; sealed = true; owner = 0 }; note = 1 } ∷ [] } ∷ [])
    (0 ∷ []) ≡ record { slot = 0x400020C0; cursor = 0x40001000; object = 0 } ∷ []
one_call = refl
