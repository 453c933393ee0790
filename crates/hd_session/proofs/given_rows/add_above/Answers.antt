use Rattle.std.proofs.Common.{◌≡◌, ℕ, List, true, [], ◌++◌, length, take, sym, ap, ap₂, ◌∙◌}
use Rattle.hd_session.specs.Buffer.{Buffer}
use Rattle.hd_session.specs.Giving.{with_path}
use Rattle.hd_session.specs.LastGiven.{Given, are_below, is_begun_by}
use Rattle.hd_session.proofs.KeysKnown.{known_added}
use Rattle.hd_session.proofs.given_rows.add_above.Goals as goal

pub returns-clause-added : goal.returns-clause-added
returns-clause-added c types m known =
    let above : Given = c.args.last_given.now in
    let path : List ℕ = c.args.path.now in
    let levels : List ℕ = c.args.levels.now in
    let room : ℕ = c.args.io.now.room in
    let level : c.level-level.result ≡ length above.path = c.level-level.ensures.value in
    let is : is_begun_by path above ≡ true = sym c.begin.ensures ∙ c.if-not-begin.false in
    let below : are_below levels (length above.path) ≡ true = ap (are_below levels) (sym level) ∙ sym c.are_below.ensures ∙ c.if-not-are_below.false in
    let added : c.push_key.new.self ≡ record { key = above.keys; area = []; room = room }
    = c.push_key.ensures ∙ ap₂ (λ (k a : List ℕ). record { key = k ++ c.keys.result.now; area = a; room = room }) c.requires.empty.0 c.requires.empty.1
    ∙ ap (λ (k : List ℕ). record { key = k; area = []; room = room }) c.keys.ensures.value in
    added
    ∙ known_added types m levels path room above is below known
    ∙ ap₂ (λ (n r : ℕ). with_path types m levels r (take n path)) (sym level) (sym (ap (λ (b : Buffer). b.room) added))
