use Rattle.std.proofs.Common.{ℕ, List, ◌≡◌, ◌+◌, ◌-◌, ◌≤◌, ◌∙◌, sym, ap, subst, length, take, drop, Option, Result, Err, arith, refl}
use Rattle.std.specs.Prelude.{IfErr}
use Rattle.std.specs.Int.{w32, from_be_bytes, to_be_bytes}
use Rattle.std.specs.Io.KnownBytes.{Keeps, prepend_known}
use Rattle.std.proofs.lemmas.Result.{err_from_is_err_and}
use Rattle.hd_serve.specs.declared.fault.FrameFault.{FrameFault}
use Rattle.hd_serve.specs.Frames.{IsWrong, IsRequestRead}
use Rattle.hd_serve.proofs.Frames.{request-taken, request-wrong}
use Rattle.hd_serve.proofs.input.FrameBuffer.next_request.Goals as goal

pub returns-in_err-request-clause-wrong : goal.returns-in_err-request-clause-wrong
returns-in_err-request-clause-wrong g c =
    let p = err_from_is_err_and c.from_residual-in_err-request.result c.from_residual-in_err-request.ensures.1 in
    let size : ℕ = c.in-Some.size in
    let first : List ℕ = c.fill.new.bytes.items in
    let now : List ℕ = c.fill-2.new.bytes.items in
    let left : Option (List ℕ) = prepend_known c.args.self.now (g.I.Read.remaining c.args.input.now) in
    let kept : Keeps left (prepend_known first (g.I.Read.remaining c.fill.new.input)) =
    subst (λ (xs : List ℕ). Keeps (prepend_known xs (g.I.Read.remaining c.args.input.now)) (prepend_known first (g.I.Read.remaining c.fill.new.input))) c.self.view_is c.in_ok-fill.ensures.kept in
    let bytes : take (4 + size - 4) (drop 4 c.deref-2.result.now) ≡ take (4 + size - 4) (drop 4 now) =
    ap (λ (xs : List ℕ). take (4 + size - 4) (drop 4 xs)) c.deref-2.ensures.value in
    let four : 4 ≤ length first = subst (λ (xs : List ℕ). 4 ≤ length xs) c.deref.ensures.value c.in-Some.ensures.some.0 in
    let number : size ≡ from_be_bytes w32 first = subst (λ (xs : List ℕ). size ≡ from_be_bytes w32 xs) c.deref.ensures.value c.in-Some.ensures.some.1 in
    let spelled : take 4 first ≡ to_be_bytes w32 size = subst (λ (xs : List ℕ). take 4 xs ≡ to_be_bytes w32 size) c.deref.ensures.value c.in-Some.ensures.spelled in
    let whole : 4 + size ≤ length now = omega (arith, c.if-len-end.false, c.len.ensures) in
    let e : FrameFault = c.in_err-request.field-0.0 in
    subst (λ (r : Result _ FrameFault). IfErr r (λ x. IsWrong c.args.limits left x)) (sym (p.1 ∙ ap Err p.2))
    (request-wrong c.args.limits (g.I.Read.remaining c.fill.new.input) (g.I.Read.remaining c.fill-2.new.input) first now (take (4 + size - 4) (drop 4 c.deref-2.result.now))
    size (4 + size) four number spelled refl whole bytes left e kept c.in_ok-fill-2.ensures.kept (sym c.is_long.ensures ∙ c.if-is_long.false) c.in_err-request.ensures.err)

pub returns-clause-request : goal.returns-clause-request
returns-clause-request g c =
    let size : ℕ = c.in-Some.size in
    let first : List ℕ = c.fill.new.bytes.items in
    let now : List ℕ = c.fill-2.new.bytes.items in
    let left : Option (List ℕ) = prepend_known c.args.self.now (g.I.Read.remaining c.args.input.now) in
    let kept : Keeps left (prepend_known first (g.I.Read.remaining c.fill.new.input)) =
    subst (λ (xs : List ℕ). Keeps (prepend_known xs (g.I.Read.remaining c.args.input.now)) (prepend_known first (g.I.Read.remaining c.fill.new.input))) c.self.view_is c.in_ok-fill.ensures.kept in
    let bytes : take (4 + size - 4) (drop 4 c.deref-2.result.now) ≡ take (4 + size - 4) (drop 4 now) =
    ap (λ (xs : List ℕ). take (4 + size - 4) (drop 4 xs)) c.deref-2.ensures.value in
    let four : 4 ≤ length first = subst (λ (xs : List ℕ). 4 ≤ length xs) c.deref.ensures.value c.in-Some.ensures.some.0 in
    let number : size ≡ from_be_bytes w32 first = subst (λ (xs : List ℕ). size ≡ from_be_bytes w32 xs) c.deref.ensures.value c.in-Some.ensures.some.1 in
    let spelled : take 4 first ≡ to_be_bytes w32 size = subst (λ (xs : List ℕ). take 4 xs ≡ to_be_bytes w32 size) c.deref.ensures.value c.in-Some.ensures.spelled in
    let whole : 4 + size ≤ length now = omega (arith, c.if-len-end.false, c.len.ensures) in
    subst (λ (xs : List ℕ). IsRequestRead c.args.limits left c.in_ok-request.request (prepend_known xs (g.I.Read.remaining c.fill-2.new.input))) (sym c.drop_front.ensures)
    (request-taken c.args.limits (g.I.Read.remaining c.fill.new.input) (g.I.Read.remaining c.fill-2.new.input) first now (take (4 + size - 4) (drop 4 c.deref-2.result.now))
    size (4 + size) four number spelled refl whole bytes left c.in_ok-request.request kept c.in_ok-fill-2.ensures.kept c.in_ok-request.ensures.right)
