-- Why a line can set nothing up.
use Rattle.std.proofs.Common.{◌≡◌, ◌∙◌, ◌+◌, ℕ, Bool, true, false, List, Option, None, Some, refl, sym, ap, subst}
use Rattle.std.specs.Prelude.{IsTrue, is_some, slice_get}
use Rattle.fedi_address.specs.Hosts.{IsHost}
use Rattle.fedi_address.specs.Names.{is_name}
use Rattle.fedi_objects.specs.declared.entry.Entry.{Entry}
use Rattle.fedi_script.specs.Lines.{Actor, Peers, Server as Named}
use Rattle.fedi_servers.specs.Founding.{Founding, IsAt, IsRefused, hosts_of, member, peer, index_in}
use Rattle.fedi_town.specs.declared.command_fault.CommandFault.{CommandFault}
use Rattle.fedi_town.specs.Histories.{town}
use Rattle.fedi_town.specs.Legal.{broken_command}
use Rattle.fedi_town.specs.Towns.{Town}
use Rattle.fedi_worlds.specs.Worlds.{Server}

-- ---- a rule

pub fault_of : (o : Option CommandFault) → is_some o ≡ true → (fault : CommandFault) × (o ≡ Some fault)
fault_of None some = absurd (cc some)
fault_of (Some fault) some = (fault, refl)

-- the entry breaks a rule, whatever it is called
pub fault_at : (t : Town) (e f : Entry) (b : Bool) → b ≡ is_some (broken_command t e) → b ≡ true
    → e ≡ f → (fault : CommandFault) × (broken_command t f ≡ Some fault)
fault_at t e f b is broken same =
    fault_of (broken_command t f)
    (subst (λ (x : Entry). is_some (broken_command t x) ≡ true) same (sym is ∙ broken))

pub unbroken_if : (o : Option CommandFault) → is_some o ≡ false → o ≡ None
unbroken_if None some = refl
unbroken_if (Some fault) some = absurd (cc some)

pub nothing_if : {A : Type 0} (o : Option A) → is_some o ≡ false → o ≡ None
nothing_if None some = refl
nothing_if (Some x) some = absurd (cc some)

-- ---- a server

pub taken : (u : Founding) (hosts : List (List ℕ)) (host : List ℕ) (index : Option ℕ)
    → hosts ≡ hosts_of u.servers → index ≡ index_in hosts host → is_some index ≡ true
    → IsRefused u (Named host)
taken u hosts host index same is some = λ v adds.
    let none : index ≡ None = is ∙ (ap (λ (l : List (List ℕ)). index_in l host) same ∙ adds.1) in
    let clash : false ≡ true = sym (ap is_some none) ∙ some in absurd (cc clash)

pub no_host : (u : Founding) (host : List ℕ) → (IsHost host → ⊥) → IsRefused u (Named host)
no_host u host bad = λ v adds. bad adds.0

-- ---- the server of a host

nowhere : (u : Founding) (hosts : List (List ℕ)) (host : List ℕ) (n : ℕ) (s : Server)
    → hosts ≡ hosts_of u.servers → None ≡ index_in hosts host → IsAt u.servers host n s → ⊥
nowhere u hosts host n s same none at =
    let clash : ◌≡◌ {A = Option ℕ} None (Some n) =
    none ∙ (ap (λ (l : List (List ℕ)). index_in l host) same ∙ at.index) in
    cc clash

one_server : (u : Founding) (host : List ℕ) (m n : ℕ) (s t : Server) → IsAt u.servers host m s
    → IsAt u.servers host n t → s ≡ t
one_server u host m n s t first second =
    let index : ◌≡◌ {A = Option ℕ} (Some m) (Some n) = sym first.index ∙ second.index in
    let number : m ≡ n = cc index in
    let same : ◌≡◌ {A = Option Server} (Some s) (Some t) =
    sym first.there ∙ (ap (λ (k : ℕ). slice_get u.servers k) number ∙ second.there) in
    cc same

-- ---- a member

pub actor_nowhere : (u : Founding) (hosts : List (List ℕ)) (host name : List ℕ)
    → hosts ≡ hosts_of u.servers → None ≡ index_in hosts host → IsRefused u (Actor host name)
actor_nowhere u hosts host name same none = λ v adds. nowhere u hosts host adds.0 adds.1 same none adds.2

pub actor_unnamed : (u : Founding) (host name : List ℕ) → (IsTrue (is_name name) → ⊥)
    → IsRefused u (Actor host name)
actor_unnamed u host name bad = λ v adds. bad adds.3

pub actor_broken : (u : Founding) (host name : List ℕ) (n : ℕ) (s : Server) (fault : CommandFault)
    → IsAt u.servers host n s
    → broken_command (town s.history) (member name (u.members + 1)) ≡ Some fault
    → IsRefused u (Actor host name)
actor_broken u host name n s fault at broken = λ v adds.
    let same : adds.1 ≡ s = one_server u host adds.0 n adds.1 s adds.2 at in
    let none : broken_command (town s.history) (member name (u.members + 1)) ≡ None =
    subst (λ (x : Server). broken_command (town x.history) (member name (u.members + 1)) ≡ None) same adds.4 in
    let clash : ◌≡◌ {A = Option CommandFault} None (Some fault) = sym none ∙ broken in cc clash

-- ---- two peers

pub first_nowhere : (u : Founding) (hosts : List (List ℕ)) (one other : List ℕ)
    → hosts ≡ hosts_of u.servers → None ≡ index_in hosts one → IsRefused u (Peers one other)
first_nowhere u hosts one other same none = λ v adds. nowhere u hosts one adds.0 adds.2 same none adds.4

pub second_nowhere : (u : Founding) (hosts : List (List ℕ)) (one other : List ℕ)
    → hosts ≡ hosts_of u.servers → None ≡ index_in hosts other → IsRefused u (Peers one other)
second_nowhere u hosts one other same none = λ v adds. nowhere u hosts other adds.1 adds.3 same none adds.5

pub first_broken : (u : Founding) (one other : List ℕ) (m : ℕ) (s : Server) (fault : CommandFault)
    → IsAt u.servers one m s
    → broken_command (town s.history) (peer other (u.pairs + 1)) ≡ Some fault
    → IsRefused u (Peers one other)
first_broken u one other m s fault at broken = λ v adds.
    let same : adds.2 ≡ s = one_server u one adds.0 m adds.2 s adds.4 at in
    let none : broken_command (town s.history) (peer other (u.pairs + 1)) ≡ None =
    subst (λ (x : Server). broken_command (town x.history) (peer other (u.pairs + 1)) ≡ None) same adds.6 in
    let clash : ◌≡◌ {A = Option CommandFault} None (Some fault) = sym none ∙ broken in cc clash

pub second_broken : (u : Founding) (one other : List ℕ) (n : ℕ) (t : Server) (fault : CommandFault)
    → IsAt u.servers other n t
    → broken_command (town t.history) (peer one (u.pairs + 1)) ≡ Some fault
    → IsRefused u (Peers one other)
second_broken u one other n t fault at broken = λ v adds.
    let same : adds.3 ≡ t = one_server u other adds.1 n adds.3 t adds.5 at in
    let none : broken_command (town t.history) (peer one (u.pairs + 1)) ≡ None =
    subst (λ (x : Server). broken_command (town x.history) (peer one (u.pairs + 1)) ≡ None) same adds.7 in
    let clash : ◌≡◌ {A = Option CommandFault} None (Some fault) = sym none ∙ broken in cc clash
