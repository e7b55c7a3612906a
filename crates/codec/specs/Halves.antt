-- Document 01, Packed bodies: half bytes put together to bytes, and taken out of them.
use Rattle.std.specs.Prelude.{ℕ, ◌+◌, ◌*◌, ◌/◌, ◌%◌, List, [], ◌∷◌}

-- half bytes put together, the high half first
unfoldable pub pack_halves : List ℕ → List ℕ
pack_halves [] = []
pack_halves (h ∷ []) = (h * 16) ∷ []
pack_halves (h ∷ (l ∷ hs)) = (h * 16 + l) ∷ pack_halves hs

-- the half bytes of bytes, the high half first
unfoldable pub halves_of : List ℕ → List ℕ
halves_of [] = []
halves_of (b ∷ bs) = (b / 16) ∷ ((b % 16) ∷ halves_of bs)
