-- The lines at the end of a script, one for each server.
use Rattle.std.proofs.Common.{◌≡◌, ◌∙◌, ◌+◌, ◌<◌, ℕ, zero, suc, List, [], ◌∷◌, ◌++◌, length, take, get_or, Option, Some, refl, sym, ap, subst, append_assoc, append-nil, arith}
use Rattle.std.specs.Prelude.{IfSome, slice_get}
use Rattle.fedi_script.specs.Printed.{entries_line}
use Rattle.fedi_servers.specs.Founding.{hosts_of}
use Rattle.fedi_worlds.specs.Worlds.{Server}
use Rattle.fedi_play.specs.Playing.{entries_lines}

-- one more server
pub entries_more : (servers : List Server) (n : ℕ) (s : Server) → slice_get servers n ≡ Some s
    → entries_lines (take (n + 1) servers)
    ≡ entries_lines (take n servers) ++ entries_line s.host (length s.history)
entries_more [] n s at = absurd (cc at)
entries_more (x ∷ servers) zero s at =
    let same : x ≡ s = cc at in
    append-nil (entries_line x.host (length x.history))
    ∙ ap (λ (y : Server). entries_line y.host (length y.history)) same
entries_more (x ∷ servers) (suc n) s at =
    let next : suc n + 1 ≡ suc (n + 1) = omega arith in
    let line = entries_line x.host (length x.history) in
    ap (λ (k : ℕ). entries_lines (take k (x ∷ servers))) next
    ∙ (ap (λ (l : List ℕ). line ++ l) (entries_more servers n s at)
    ∙ sym (append_assoc line (entries_lines (take n servers)) (entries_line s.host (length s.history))))

-- the server that has the host at this index
pub server_at : (servers : List Server) (n : ℕ) (host : List ℕ)
    → slice_get (hosts_of servers) n ≡ Some host
    → (s : Server) × (slice_get servers n ≡ Some s) × (s.host ≡ host)
server_at [] n host at = absurd (cc at)
server_at (s ∷ servers) zero host at = (s, refl, cc at)
server_at (s ∷ servers) (suc n) host at = server_at servers n host at

pub inside_at : (servers : List Server) (n : ℕ) (host : List ℕ)
    → slice_get (hosts_of servers) n ≡ Some host → n < length servers
inside_at [] n host at = absurd (cc at)
inside_at (s ∷ servers) zero host at = omega arith
inside_at (s ∷ servers) (suc n) host at =
    let more = inside_at servers n host at in omega (arith, more)

-- the line of the next server
pub entries_on : (servers : List Server) (n : ℕ) (host : List ℕ) (count : ℕ)
    → slice_get (hosts_of servers) n ≡ Some host
    → IfSome (slice_get servers n) (λ (s : Server). count ≡ length s.history)
    → entries_lines (take (n + 1) servers)
    ≡ entries_lines (take n servers) ++ entries_line host count
entries_on servers n host count at counted =
    let found = server_at servers n host at in
    let s = found.0 in
    let many : count ≡ length s.history =
    subst (λ (o : Option Server). IfSome o (λ (x : Server). count ≡ length x.history)) found.1 counted in
    entries_more servers n s found.1
    ∙ (ap (λ (h : List ℕ). entries_lines (take n servers) ++ entries_line h (length s.history)) found.2
    ∙ ap (λ (k : ℕ). entries_lines (take n servers) ++ entries_line host k) (sym many))

-- the host at this index, as a loop over the hosts has it
host_got : (hosts : List (List ℕ)) (n : ℕ) (own d : List ℕ) → n < length hosts
    → own ≡ get_or hosts n d → slice_get hosts n ≡ Some own
host_got [] n own d inside is = absurd (omega (arith, inside))
host_got (h ∷ hosts) zero own d inside is = ap (λ (x : List ℕ). Some x) (sym is)
host_got (h ∷ hosts) (suc n) own d inside is = host_got hosts n own d (omega (arith, inside)) is

pub entries_kept : (hosts : List (List ℕ)) (servers : List Server) (n : ℕ) (own d host : List ℕ)
    (count : ℕ) (first before now : List ℕ) → hosts ≡ hosts_of servers → n < length hosts
    → own ≡ get_or hosts n d → host ≡ own
    → IfSome (slice_get servers n) (λ (s : Server). count ≡ length s.history)
    → before ≡ first ++ entries_lines (take n servers) → now ≡ before ++ entries_line host count
    → now ≡ first ++ entries_lines (take (n + 1) servers)
entries_kept hosts servers n own d host count first before now same inside is named counted earlier more =
    let there : slice_get hosts n ≡ Some own = host_got hosts n own d inside is in
    let at : slice_get (hosts_of servers) n ≡ Some host =
    subst (λ (l : List (List ℕ)). slice_get l n ≡ Some host) same
    (subst (λ (h : List ℕ). slice_get hosts n ≡ Some h) (sym named) there) in
    let line = entries_line host count in
    more
    ∙ (ap (λ (l : List ℕ). l ++ line) earlier
    ∙ (append_assoc first (entries_lines (take n servers)) line
    ∙ ap (λ (l : List ℕ). first ++ l) (sym (entries_on servers n host count at counted))))
