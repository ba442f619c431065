-- What one server signs of a request to another, under the key that the two share.
use Rattle.std.specs.Prelude.{ℕ, List, ◌++◌, codes}

-- the method, a space, the target, a line feed, the sender's host, a line feed and the body
unfoldable pub signed_text : (method target host body : List ℕ) → List ℕ
signed_text method target host body =
    (((((method ++ codes " ") ++ target) ++ codes "\n") ++ host) ++ codes "\n") ++ body
