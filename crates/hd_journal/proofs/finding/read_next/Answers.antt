use Rattle.std.proofs.Common.{rules, ℕ, ◌≡◌, ◌+◌, ◌≤◌, true, length, slice_index, sym, ap, ◌∙◌, subst}
use Rattle.hd_journal.specs.declared.head.Head.{Head}
use Rattle.hd_journal.specs.Log.{with_next, follows}
use Rattle.std.proofs.lemmas.Bool.{true≢false}
use Rattle.std.proofs.lemmas.Option.{IfSome_then}
use Rattle.hd_journal.proofs.Commits.{not-next, next-from}
use Rattle.hd_journal.proofs.FindLemmas.{slot-read, told}
use Rattle.hd_journal.proofs.finding.read_next.Goals as goal
use Rattle.hd_journal.proofs.finding.read_next.Goals.{then-read_u32-via-then-read_u32, then-read_u32-via-else-read_u32+then-slot-ne-OPEN}

pub returns-then-read_u32-clause-none : goal.returns-then-read_u32-clause-none
returns-then-read_u32-clause-none g c none h =
    let log = (g.D.Disk.state c.args.disk.now).log in
    let head = c.args.head in
    let there : c.frame_place-place.result + 17 ≤ length log = search (rules, c.requires.len h) in
    let read = slot-read log c.read_log.new.buf head c.frame_place-place.result c.frame_place-place.ensures (c.in_ok-read_log.ensures.value h) there in
    not-next log head (λ sign one sizes.
    let number : c.read_u32.result ≡ 4294967295 = c.read_u32.ensures ∙ read.0 ∙ sign in
    let gate = read.1 ∙ one in
    elim c.then-read_u32.branch [
      | then-read_u32-via-then-read_u32 w ↦ search (rules, number)
      | then-read_u32-via-else-read_u32+then-slot-ne-OPEN w ↦ search (rules, gate)
    ])

pub returns-clause-some : goal.returns-clause-some
returns-clause-some g c =
    IfSome_then c.follow.result c.follow.ensures.some (λ next is. (
      ap (λ (x : Head). x.size) is.0,
      λ h.
          let log = (g.D.Disk.state c.args.disk.now).log in
          let there : c.frame_place-place.result + 17 ≤ length log = search (rules, c.requires.len h) in
          let read = slot-read log c.read_log.new.buf c.args.head c.frame_place-place.result c.frame_place-place.ensures (c.in_ok-read_log.ensures.value h) there in
          let number : c.read_u32.result ≡ 4294967295 = search rules in
          let gate : slice_index c.read_log.new.buf 4 ≡ 1 = search rules in
          let has : next ≡ with_next log c.args.head = is.0 ∙ told log c.args.head _ _ (c.read_u32-2.ensures ∙ read.2) (c.read_u64.ensures ∙ read.3) in
          let sizes : follows (with_next log c.args.head) c.args.head.len (length log) ≡ true = subst (λ (x : Head). follows x c.args.head.len (length log) ≡ true) has (subst (λ (n : ℕ). follows next c.args.head.len n ≡ true) (c.requires.len h) is.1) in
          (next-from log c.args.head (sym read.0 ∙ sym c.read_u32.ensures ∙ number) (sym read.1 ∙ gate) sizes, has),
    ))

pub returns-clause-none : goal.returns-clause-none
returns-clause-none g c none h =
    let log = (g.D.Disk.state c.args.disk.now).log in
    let there : c.frame_place-place.result + 17 ≤ length log = search (rules, c.requires.len h) in
    let read = slot-read log c.read_log.new.buf c.args.head c.frame_place-place.result c.frame_place-place.ensures (c.in_ok-read_log.ensures.value h) there in
    let closed = c.follow.ensures.none none (with_next log c.args.head) (sym (told log c.args.head _ _ (c.read_u32-2.ensures ∙ read.2) (c.read_u64.ensures ∙ read.3))) in
    not-next log c.args.head (λ sign one sizes. true≢false (sym sizes ∙ ap (follows (with_next log c.args.head) c.args.head.len) (sym (c.requires.len h)) ∙ closed))
