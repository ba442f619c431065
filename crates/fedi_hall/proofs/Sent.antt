-- A machine with its log may cross threads, if its shelf, its keeper and its opening may.
use denote.RattleType.{RattleType}
use Prim.Native.Nat.{ℕ}
use mathlib.Core.List.{List, [], ◌∷◌}
use denote.Ref.{NamedLft, ShrRef}
use denote.Struct.Field.{row_field}
use denote.Struct.Tuple.{TupleAt, type_at}
use denote.Param.Send.{IsSend, IsSync, shr_sync, view_send, view_sync, sendable}
use denote.Param.SendFields.{as_row_sync, declared_send, declared_sync}
use Rattle.fedi_address.specs.contracts.host.Host as Host
use Rattle.fedi_effects.proofs.Shared.{roster_sync}
use Rattle.fedi_hall.specs.contracts.hall.Lobby as Lobby
use Rattle.fedi_hall.specs.contracts.hall.Queues as Queues
use Rattle.fedi_log.specs.contracts.items.Item as Item
use Rattle.fedi_logged.specs.contracts.answers.LoggedGrows.TheImpl as grows
use Rattle.fedi_routes.specs.contracts.kinds.Kind as Kind
use Rattle.fedi_routes.specs.contracts.router.Routes as Routes
use Rattle.fedi_turn.proofs.lock.TurnLock.TheSendSync.{the_sync as lock_sync}
use Rattle.fedi_turn.specs.contracts.lock.TurnLock as TurnLock
use Rattle.std.specs.contracts.alloc.Global as Global
use Rattle.std.proofs.Crossing.{crosses}
use Rattle.fedi_core.specs.contracts.machine.Core as Core
use Rattle.fedi_core.specs.contracts.machine.Core.TheInside as CoreInside
use Rattle.fedi_logged.specs.contracts.logged.Logged as Logged
use Rattle.fedi_logged.specs.contracts.logged.Logged.TheInside as LoggedInside
use Rattle.fedi_logged.specs.contracts.noted.Noted as Noted
use Rattle.fedi_logged.specs.declared.opened.Opened as opened
use Rattle.fedi_outside.specs.declared.keepers.Keeper as keepers
use Rattle.fedi_queue.proofs.Sent.{queue_send}
use Rattle.fedi_visible.specs.declared.shelf.Shelf as shelves
use Rattle.matchit.proofs.tree.Node.TheLaws.TheKnot.{crosses as nodes_cross}
use Rattle.matchit.specs.contracts.router.Router as Router
use Rattle.matchit.specs.contracts.router.Router.TheInside as RouterInside
use Rattle.fedi_effects.proofs.Sent.{trace_send}

core_inside_send : (S P : RattleType) (s : shelves.Ghosts S.Denot) (p : keepers.Ghosts P.Denot) → IsSend S → IsSend P → IsSend (CoreInside.the_row S P s p)
core_inside_send S P s p shelf keeper = declared_send (CoreInside.the_type S P s p) (search (shelf, keeper, queue_send, sendable) depth 20)

core_send : (S P : RattleType) (s : shelves.Ghosts S.Denot) (p : keepers.Ghosts P.Denot) → IsSend S → IsSend P → IsSend (Core.the_row S P s p)
core_send S P s p shelf keeper = view_send _ _ _ _ _ (core_inside_send S P s p shelf keeper)

noted_send : IsSend Noted.the_row
noted_send = search (crosses, sendable) depth 20

logged_inside_send :
    (S P O : RattleType) (s : shelves.Ghosts S.Denot) (p : keepers.Ghosts P.Denot) (o : opened.Ghosts O.Denot)
    → IsSend S → IsSend P → IsSend O → IsSend (LoggedInside.the_row S P O s p o)
logged_inside_send S P O s p o shelf keeper opening =
    declared_send (LoggedInside.the_type S P O s p o) (search (core_send S P s p shelf keeper, opening, trace_send Noted.the_row noted_send, crosses, sendable) depth 20)

pub logged_send :
    (S P O : RattleType) (s : shelves.Ghosts S.Denot) (p : keepers.Ghosts P.Denot) (o : opened.Ghosts O.Denot)
    → IsSend S → IsSend P → IsSend O → IsSend (Logged.the_row S P O s p o)
logged_send S P O s p o shelf keeper opening = view_send _ _ _ _ _ (logged_inside_send S P O s p o shelf keeper opening)

pub turns_sync :
    (S P O : RattleType) (s : shelves.Ghosts S.Denot) (p : keepers.Ghosts P.Denot) (o : opened.Ghosts O.Denot)
    → IsSend S → IsSend P → IsSend O
    → IsSync (TurnLock.the_row (Logged.the_row S P O s p o) Item.the_row (grows.ghosts S P O s grows.no_dict p grows.no_dict o grows.no_dict grows.no_dict grows.no_dict))
turns_sync S P O s p o shelf keeper opening = search (lock_sync, logged_send S P O s p o shelf keeper opening, sendable) depth 20

kind_sync : IsSync Kind.the_row
kind_sync = search (crosses, sendable) depth 20

router_inside_sync : IsSync (RouterInside.the_row Kind.the_row)
router_inside_sync = declared_sync (RouterInside.the_type Kind.the_row) (search (nodes_cross, kind_sync, crosses, sendable) depth 20)

router_sync : IsSync (Router.the_row Kind.the_row)
router_sync = view_sync _ _ _ _ _ router_inside_sync

routes_sync : IsSync Routes.the_row
routes_sync = declared_sync Routes.the_type (search (router_sync, sendable) depth 20)

host_sync : IsSync Host.the_row
host_sync = search (crosses, sendable) depth 40

queues_sync : IsSync Queues.the_row
queues_sync = search (crosses, sendable) depth 20

lobby_sync : IsSync Lobby.the_row
lobby_sync = declared_sync Lobby.the_type
    (search (host_sync, roster_sync, routes_sync, queues_sync, sendable) depth 20)

global_sync : IsSync Global.the_row
global_sync = search (crosses, sendable) depth 20

-- what the workers of a hall share, each by a reference, may be shared if each part of it may
pub shared_sync :
    (names : List ℕ) (R L C : RattleType) (a b c d e : NamedLft)
    → IsSync R → IsSync L → IsSync C
    → IsSync (TupleAt names (
    ShrRef a.mir a.lft R
    ∷ ShrRef b.mir b.lft Global.the_row
    ∷ ShrRef c.mir c.lft L
    ∷ ShrRef d.mir d.lft Lobby.the_row
    ∷ ShrRef e.mir e.lft C
    ∷ []))
shared_sync names R L C a b c d e threads lock clock =
    declared_sync (type_at names (
    ShrRef a.mir a.lft R
    ∷ ShrRef b.mir b.lft Global.the_row
    ∷ ShrRef c.mir c.lft L
    ∷ ShrRef d.mir d.lft Lobby.the_row
    ∷ ShrRef e.mir e.lft C
    ∷ [])) (
      as_row_sync (row_field _) (shr_sync a.mir a.lft _ threads),
      (
        as_row_sync (row_field _) (shr_sync b.mir b.lft _ global_sync),
        (
          as_row_sync (row_field _) (shr_sync c.mir c.lft _ lock),
          (
            as_row_sync (row_field _) (shr_sync d.mir d.lft _ lobby_sync),
            (as_row_sync (row_field _) (shr_sync e.mir e.lft _ clock), tt),
          ),
        ),
      ),
    )
