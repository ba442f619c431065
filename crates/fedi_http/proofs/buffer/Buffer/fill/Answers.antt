use Rattle.std.proofs.Common.{◌≡◌, ◌+◌, ◌++◌, List, [], ℕ, take, drop, sym, ap, ◌∙◌, inl, arith, append-nil}
use Rattle.std.proofs.lemmas.List.{with_items_is}
use Rattle.std.proofs.lemmas.Result.{err_from_is_err_and}
use Rattle.fedi_http.specs.Moves.{Held}
use Rattle.fedi_http.proofs.PartLemmas.{part_read, part_same}
use Rattle.fedi_http.proofs.ReadLemmas.{reads_none}
use Rattle.fedi_http.proofs.buffer.Buffer.fill.Goals as goal

-- out of memory: nothing changed
pub returns-in_err-make_room-clause-reads : goal.returns-in_err-make_room-clause-reads
returns-in_err-make_room-clause-reads g c =
    let part = c.self.inside in
    let p = err_from_is_err_and c.from_residual.result c.from_residual.ensures.1 in
    let same : take part.count (drop part.start c.make_room.new.bytes.items) ≡ c.args.self.now.pending =
    ap (λ (l : List ℕ). take part.count (drop part.start l)) c.in_err-make_room.ensures.failed ∙ ap (λ (h : Held). h.pending) c.self.view_is in
    rw (p.1, p.2)
    (reads_none g.S.Source.left g.S.Source.read_faults g.S.Source.beside_source c.args.source.now (Unit {0})
    (λ more. take part.count (drop part.start c.make_room.new.bytes.items) ≡ c.args.self.now.pending ++ more) (same ∙ sym (append-nil c.args.self.now.pending)))

pub returns-in_err-make_room-clause-body : goal.returns-in_err-make_room-clause-body
returns-in_err-make_room-clause-body g c =
    ap (take c.self.inside.held) c.in_err-make_room.ensures.failed ∙ ap (λ (h : Held). h.body) c.self.view_is

pub returns-in_err-make_room-clause-same : goal.returns-in_err-make_room-clause-same
returns-in_err-make_room-clause-same g c =
    let part = c.self.inside in
    let p = err_from_is_err_and c.from_residual.result c.from_residual.ensures.1 in
    rw p.1 (ap (λ (l : List ℕ). take part.count (drop part.start l)) c.in_err-make_room.ensures.failed ∙ ap (λ (h : Held). h.pending) c.self.view_is)

pub returns-in_err-make_room-clause-ended : goal.returns-in_err-make_room-clause-ended
returns-in_err-make_room-clause-ended g c =
    let p = err_from_is_err_and c.from_residual.result c.from_residual.ensures.1 in rw (p.1, p.2) tt

pub returns-in_err-make_room-clause-errors : goal.returns-in_err-make_room-clause-errors
returns-in_err-make_room-clause-errors g c =
    let p = err_from_is_err_and c.from_residual.result c.from_residual.ensures.1 in rw (p.1, p.2) tt

-- nothing was read: what is pending was moved down
pub returns-in_err-self-inside-clause-reads : goal.returns-in_err-self-inside-clause-reads
returns-in_err-self-inside-clause-reads g c =
    let part = c.self.inside in
    let p = err_from_is_err_and c.from_residual-in_err-self-inside.result c.from_residual-in_err-self-inside.ensures.1 in
    let told = c.in_err-self-inside.ensures in
    let items = with_items_is c.make_room.new.bytes c.read_behind.new.bytes (omega (arith, c.read_behind.auto.bytes, c.deref_mut.ensures.len)) in
    rw (p.1, p.2) (record {
      more = [];
      taken = told.failed;
      holds = part_same (λ (l : List ℕ). take part.count (drop part.held l)) _ _ _ _ (c.args.self.now.pending ++ []) items told.kept c.deref_mut.ensures.value
          (c.in_ok-make_room.ensures.moved ∙ ap (λ (h : Held). h.pending) c.self.view_is ∙ sym (append-nil c.args.self.now.pending));
      idle = inl tt;
      beside = told.beside;
      faults = told.faults;
    })

pub returns-in_err-self-inside-clause-same : goal.returns-in_err-self-inside-clause-same
returns-in_err-self-inside-clause-same g c =
    let part = c.self.inside in
    let p = err_from_is_err_and c.from_residual-in_err-self-inside.result c.from_residual-in_err-self-inside.ensures.1 in
    let items = with_items_is c.make_room.new.bytes c.read_behind.new.bytes (omega (arith, c.read_behind.auto.bytes, c.deref_mut.ensures.len)) in
    rw p.1
    (part_same (λ (l : List ℕ). take part.count (drop part.held l)) _ _ _ _ c.args.self.now.pending items c.in_err-self-inside.ensures.kept c.deref_mut.ensures.value
    (c.in_ok-make_room.ensures.moved ∙ ap (λ (h : Held). h.pending) c.self.view_is))

pub returns-in_err-self-inside-clause-body : goal.returns-in_err-self-inside-clause-body
returns-in_err-self-inside-clause-body g c =
    let part = c.self.inside in
    let items = with_items_is c.make_room.new.bytes c.read_behind.new.bytes (omega (arith, c.read_behind.auto.bytes, c.deref_mut.ensures.len)) in
    part_same (λ (l : List ℕ). take part.held l) _ _ _ _ c.args.self.now.body items c.read_behind.ensures.front c.deref_mut.ensures.value
    (c.in_ok-make_room.ensures.front ∙ ap (λ (h : Held). h.body) c.self.view_is)

pub returns-in_err-self-inside-clause-ended : goal.returns-in_err-self-inside-clause-ended
returns-in_err-self-inside-clause-ended g c =
    let p = err_from_is_err_and c.from_residual-in_err-self-inside.result c.from_residual-in_err-self-inside.ensures.1 in
    rw (p.1, p.2) c.in_err-self-inside.ensures.ended

pub returns-in_err-self-inside-clause-errors : goal.returns-in_err-self-inside-clause-errors
returns-in_err-self-inside-clause-errors g c =
    let p = err_from_is_err_and c.from_residual-in_err-self-inside.result c.from_residual-in_err-self-inside.ensures.1 in
    rw (p.1, p.2) c.in_err-self-inside.ensures.errors

-- bytes were read after it
pub returns-clause-reads : goal.returns-clause-reads
returns-clause-reads g c =
    let part = c.self.inside in
    let told = c.in_ok-self-inside.ensures in
    let items = with_items_is c.make_room.new.bytes c.read_behind.new.bytes (omega (arith, c.read_behind.auto.bytes, c.deref_mut.ensures.len)) in
    record {
      more = told.read.0;
      taken = told.read.1;
      holds = part_read (λ (l : List ℕ). take (part.count + c.in_ok-self-inside.field-0) (drop part.held l)) (λ (l : List ℕ). take part.count (drop part.held l))
          _ _ _ told.read.0 c.args.self.now.pending items told.read.2
          (ap (λ (l : List ℕ). take part.count (drop part.held l)) c.deref_mut.ensures.value
          ∙ c.in_ok-make_room.ensures.moved ∙ ap (λ (h : Held). h.pending) c.self.view_is);
      idle = inl tt;
      beside = told.beside;
      faults = told.faults;
    }

pub returns-clause-body : goal.returns-clause-body
returns-clause-body g c =
    let part = c.self.inside in
    let items = with_items_is c.make_room.new.bytes c.read_behind.new.bytes (omega (arith, c.read_behind.auto.bytes, c.deref_mut.ensures.len)) in
    part_same (λ (l : List ℕ). take part.held l) _ _ _ _ c.args.self.now.body items c.read_behind.ensures.front c.deref_mut.ensures.value
    (c.in_ok-make_room.ensures.front ∙ ap (λ (h : Held). h.body) c.self.view_is)
