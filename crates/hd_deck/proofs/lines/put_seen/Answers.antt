use Rattle.std.proofs.Common.{◌≡◌, ◌≤◌, ◌+◌, ℕ, List, ◌++◌, length, take, replicate, codes, decimal, refl, rules, sym, ap, subst, ◌∙◌, arith}
use Rattle.std.proofs.lemmas.Fmt.{length-decimal-le}
use Rattle.std.specs.Prelude.{OnOk}
use Rattle.std.specs.Io.KnownBytes.{Appends}
use Rattle.hd_deck.specs.Printing.{shown, bracket_text, place_text}
use Rattle.hd_deck.proofs.Fixed.{numbered, short-line}
use Rattle.hd_deck.proofs.lines.put_seen.Goals as goal

pub write_digits-first-requires : goal.write_digits-first-requires
write_digits-first-requires g c = search (rules, length-decimal-le 20)

pub returns : goal.returns
returns g c =
    let answer = c.args.answer.now in
    let number : List ℕ = decimal c.args.number in
    let blank : List ℕ = take 20 (replicate 256 32) in
    let head : List ℕ = c.short_head.result in
    let place : List ℕ = c.place_bytes-place.result in
    let key : List ℕ = shown c.key-2.result.now in
    let area : List ℕ = shown c.area-2.result.now in
    let word : List ℕ = codes " area=" in
    let text : take c.add-end-4.result c.add-end-4.new.line ≡ blank ++ head ++ place ++ key ++ word ++ area ++ codes "\n"
    = c.add-end-4.ensures.line ∙ ap (λ (l : List ℕ). l ++ codes "\n") (c.add_each-end-2.ensures.line ∙ ap (λ (l : List ℕ). l ++ area) (c.add-end-3.ensures.line ∙ ap (λ (l : List ℕ). l ++ word)
    (c.add_each-end.ensures.line ∙ ap (λ (l : List ℕ). l ++ key) (c.add-end-2.ensures.line ∙ ap (λ (l : List ℕ). l ++ place) c.add-end.ensures.line)))) in
    let blanks : length blank ≡ 20 = search rules in
    let fits : 20 ≤ c.add-end-4.result =
    let one : c.add-end.result ≡ 20 + length head = c.add-end.ensures.end in
    let two : c.add-end-2.result ≡ c.add-end.result + length place = c.add-end-2.ensures.end in
    let three : c.add-end-2.result ≤ c.add_each-end.result = c.add_each-end.ensures.end.0 in
    let four : c.add-end-3.result ≡ c.add_each-end.result + 6 = c.add-end-3.ensures.end in
    let five : c.add-end-3.result ≤ c.add_each-end-2.result = c.add_each-end-2.ensures.end.0 in
    let last : c.add-end-4.result ≡ c.add_each-end-2.result + 1 = c.add-end-4.ensures.end in
    omega arith in
    let whole = numbered c.write_digits-first.new.buf c.add-end-4.new.line blank number head place key word area (codes "\n") c.write_digits-first.result 20 c.add-end-4.result blanks
    c.write_digits-first.ensures.start fits c.write_digits-first.ensures.written text in
    let line = short-line number head (decimal c.args.pcb) c.args.function.now place (bracket_text answer.status ++ place_text answer.level answer.segment)
    key (shown c.args.io.now.key) area (shown c.args.io.now.area) c.short_head.ensures c.place_bytes-place.ensures
    (ap shown (sym c.key-2.ensures)) (ap shown (sym c.area-2.ensures)) in
    subst (λ (bytes : List ℕ). OnOk c.put.result (Appends (g.W.Write.contents c.args.out.now) (g.W.Write.contents c.put.new.out) bytes))
    (whole ∙ line) c.put.ensures
