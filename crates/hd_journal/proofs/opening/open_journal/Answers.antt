use Rattle.std.proofs.Common.{rules, ◌≡◌, ◌*◌, ◌/◌, ◌≤◌, ℕ, List, [], length, replicate, true, refl, sym, ap, ◌∙◌, subst, arith}
use Rattle.hd_stores.specs.Stores.{Committed}
use Rattle.hd_journal.specs.declared.head.Head.{Head}
use Rattle.hd_journal.specs.declared.journal.Stage.TheVariants.{Collecting}
use Rattle.hd_journal.specs.Disk.{Marks}
use Rattle.hd_journal.specs.Log.{no_block, image}
use Rattle.hd_journal.specs.Framed.{fresh, IsFramed, IsSafe}
use Rattle.hd_journal.specs.Journals.{Holds, since_in, before_in, committed_in}
use Rattle.hd_journal.proofs.Slots.{fresh-image}
use Rattle.hd_journal.proofs.FrameLemmas.{fresh-framed}
use Rattle.hd_journal.proofs.JournalLemmas.{collecting≢published, collecting≢doubtful}
use Rattle.hd_journal.proofs.Held.{held-stands}
use Rattle.hd_journal.proofs.Moments.{meanwhile, marked}
use Rattle.hd_journal.proofs.Safety.{safe-first}
use Rattle.hd_journal.proofs.Marking.{image-over, framed-over, held-marked, mark-stands}
use Rattle.hd_journal.proofs.opening.open_journal.Goals as goal

pub returns-clause-kept : goal.returns-clause-kept
returns-clause-kept g c =
    let b = g.D.Disk.state c.prepare.new.disk in
    let m = g.D.Disk.state c.mark.new.self in
    let blank : Head = record { size = c.args.size; count = 0; base = 0; len = 0; device = c.identity-device.result.0; number = c.identity-device.result.1 } in
    let p : ℕ = c.in-Ok.len / c.args.size in
    let places : replicate {A = ℕ} p 0 ≡ c.in-Ok-vec.places.items = search rules in
    let kept : replicate {A = ℕ} p 0 ≡ c.in-Ok-vec-2.kept.items = search rules in
    let few : c.in-Ok.len ≤ no_block * c.args.size = search (rules, c.most_len.ensures) in
    record {
      some = c.requires.some;
      small = c.requires.small;
      zeros = search rules;
      frame = search rules;
      room = search rules;
      kept_room = search rules;
      fewer = search rules;
      same = refl;
      later = omega arith;
      longer = omega arith;
      usable = λ e. c.in-Ok-mark.ensures.usable;
      sure = λ e. collecting≢doubtful;
      framed = λ e h.
          let marks : Marks true b m = c.in-Ok-mark.ensures.marks h in
          let len = c.in-Ok.ensures.len h in
          let blocks : p * c.args.size ≤ length b.volume = omega (arith, len) in
          let is = fresh-framed b blank p c.requires.some c.requires.small (c.in-Ok.ensures.long h) blocks (omega (arith, few, len)) in
          subst (λ (xs : List ℕ). IsFramed m (fresh blank c.in-Ok.len) xs) places (framed-over (fresh blank c.in-Ok.len) (replicate p 0) b m marks.log marks.volume (subst (λ (n : ℕ). IsFramed b (fresh blank n) (replicate p 0)) (sym len) is));
      last = λ e h.
          let marks : Marks true b m = c.in-Ok-mark.ensures.marks h in
          let len = c.in-Ok.ensures.len h in
          let blocks : p * c.args.size ≤ length b.volume = omega (arith, len) in
          let is = fresh-framed b blank p c.requires.some c.requires.small (c.in-Ok.ensures.long h) blocks (omega (arith, few, len)) in
          subst (λ (xs : List ℕ). IsFramed m (fresh blank c.in-Ok.len) xs) kept (framed-over (fresh blank c.in-Ok.len) (replicate p 0) b m marks.log marks.volume (subst (λ (n : ℕ). IsFramed b (fresh blank n) (replicate p 0)) (sym len) is));
      holds = λ e h. held-marked true b m (c.in-Ok-mark.ensures.marks h) Collecting (fresh blank c.in-Ok.len) (c.in-Ok.ensures.settled h, ap (fresh blank) (c.in-Ok.ensures.len h));
      first = λ e s. absurd (collecting≢published s);
      marked = λ h.
          let marks : Marks true b m = c.in-Ok-mark.ensures.marks h in
          let held : Holds Collecting (fresh blank c.in-Ok.len) b = (c.in-Ok.ensures.settled h, ap (fresh blank) (c.in-Ok.ensures.len h)) in
          mark-stands b m (image (fresh blank c.in-Ok.len) b.log b.volume) (image (fresh blank c.in-Ok.len) m.log m.volume) [] (g.met.D.Disk.seen_may_stay c.prepare.new.disk)
          (held-stands Collecting (fresh blank c.in-Ok.len) b collecting≢doubtful held) (image-over (fresh blank c.in-Ok.len) b m marks.log marks.volume) marks.marks;
      safe = λ h.
          let marks : Marks true b m = c.in-Ok-mark.ensures.marks h in
          let held : Holds Collecting (fresh blank c.in-Ok.len) b = (c.in-Ok.ensures.settled h, ap (fresh blank) (c.in-Ok.ensures.len h)) in
          let over : image (fresh blank c.in-Ok.len) m.log m.volume ≡ image (fresh blank c.in-Ok.len) b.log b.volume = image-over (fresh blank c.in-Ok.len) b m marks.log marks.volume in
          let first = safe-first b m (image (fresh blank c.in-Ok.len) b.log b.volume) marks (g.met.D.Disk.only_now c.prepare.new.disk) (held-stands Collecting (fresh blank c.in-Ok.len) b collecting≢doubtful held) in
          let is : committed_in (image (fresh blank c.in-Ok.len) m.log m.volume) (image (fresh blank c.in-Ok.len) m.log m.volume) m.marks
          ≡ record { image = image (fresh blank c.in-Ok.len) b.log b.volume; tried = image (fresh blank c.in-Ok.len) b.log b.volume; since = b.moment; before = [] } = rw (over, marks.marks) refl in
          subst (λ (x : Committed). IsSafe x m) (sym is) first;
    }

pub returns-clause-contents : goal.returns-clause-contents
returns-clause-contents g c h =
    let b = g.D.Disk.state c.prepare.new.disk in
    let m = g.D.Disk.state c.mark.new.self in
    let blank : Head = record { size = c.args.size; count = 0; base = 0; len = 0; device = c.identity-device.result.0; number = c.identity-device.result.1 } in
    let marks : Marks true b m = c.in-Ok-mark.ensures.marks h in
    image-over (fresh blank c.in-Ok.len) b m marks.log marks.volume ∙ ap (λ (n : ℕ). image (fresh blank n) b.log b.volume) (c.in-Ok.ensures.len h) ∙ fresh-image b blank ∙ c.in-Ok.ensures.image h

pub returns-clause-image : goal.returns-clause-image
returns-clause-image g c h =
    let b = g.D.Disk.state c.prepare.new.disk in
    let m = g.D.Disk.state c.mark.new.self in
    let blank : Head = record { size = c.args.size; count = 0; base = 0; len = 0; device = c.identity-device.result.0; number = c.identity-device.result.1 } in
    let marks : Marks true b m = c.in-Ok-mark.ensures.marks h in
    image-over (fresh blank c.in-Ok.len) b m marks.log marks.volume ∙ ap (λ (n : ℕ). image (fresh blank n) b.log b.volume) (c.in-Ok.ensures.len h) ∙ fresh-image b blank ∙ c.in-Ok.ensures.image h

pub returns-clause-tried : goal.returns-clause-tried
returns-clause-tried g c h =
    let b = g.D.Disk.state c.prepare.new.disk in
    let m = g.D.Disk.state c.mark.new.self in
    let blank : Head = record { size = c.args.size; count = 0; base = 0; len = 0; device = c.identity-device.result.0; number = c.identity-device.result.1 } in
    let marks : Marks true b m = c.in-Ok-mark.ensures.marks h in
    image-over (fresh blank c.in-Ok.len) b m marks.log marks.volume ∙ ap (λ (n : ℕ). image (fresh blank n) b.log b.volume) (c.in-Ok.ensures.len h) ∙ fresh-image b blank ∙ c.in-Ok.ensures.image h

pub returns-clause-since : goal.returns-clause-since
returns-clause-since g c h =
    let marks : Marks true (g.D.Disk.state c.prepare.new.disk) (g.D.Disk.state c.mark.new.self) = c.in-Ok-mark.ensures.marks h in
    ap since_in marks.marks ∙ sym marks.moment

pub returns-clause-before : goal.returns-clause-before
returns-clause-before g c h =
    let marks : Marks true (g.D.Disk.state c.prepare.new.disk) (g.D.Disk.state c.mark.new.self) = c.in-Ok-mark.ensures.marks h in
    ap before_in marks.marks

pub returns-clause-leaves : goal.returns-clause-leaves
returns-clause-leaves g c h = marked (meanwhile (c.prepare.ensures.leaves h)) (c.in-Ok-mark.ensures.marks h)
