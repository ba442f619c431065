-- Numbers for strings that depend on a secret: 32 bits of SipHash.
use Rattle.std.specs.Prelude.{ℕ, ◌%◌, ◌^◌, List, [], ◌∷◌}
use Rattle.std.specs.Hash.DefaultHasher as sip
use Rattle.std.specs.declared.hash.DefaultHasher.{DefaultHasher}
use Rattle.fedi_register.specs.declared.seeds.Seed.{Seed}

-- the seed of secret bytes
unfoldable pub seed_of : List ℕ → Seed
seed_of bytes = record { state = sip.write sip.initial bytes }

-- the number for what was hashed
unfoldable pub mark_in : DefaultHasher → ℕ
mark_in hasher = sip.finish hasher % 2 ^ 32

-- a number for a string that distinguishes it from most other strings
unfoldable pub mark_of : Seed → List ℕ → ℕ
mark_of seed text = mark_in (sip.write seed.state text)

-- a number for two texts, hashed with a byte between them that occurs in no text
unfoldable pub mark_of_pair : Seed → List ℕ → List ℕ → ℕ
mark_of_pair seed a b = mark_in (sip.write (sip.write (sip.write seed.state a) (255 ∷ [])) b)
