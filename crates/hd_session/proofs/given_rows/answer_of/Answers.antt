use Rattle.std.proofs.Common.{◌≡◌, ℕ, List, Option, ap, ◌∙◌}
use Rattle.std.specs.Prelude.{option_map}
use Rattle.std.proofs.Math.Seq.{take-length}
use Rattle.hd_dbd.specs.Hierarchy.{type_of}
use Rattle.hd_dbd.specs.Paths.{row_at, level_at, path_of, keys_of}
use Rattle.hd_calls.specs.Gets.{bytes_of}
use Rattle.hd_links.specs.Links.{Links}
use Rattle.hd_links.specs.Steps.{rows_of}
use Rattle.hd_image.specs.Records.{links_of}
use Rattle.hd_forest.specs.Walks.{tip}
use Rattle.hd_get.proofs.Grounds.{grounds, tip_code}
use Rattle.hd_session.specs.Buffer.{Buffer}
use Rattle.hd_session.proofs.GivenPaths.{given_on, level_on}
use Rattle.hd_session.proofs.given_rows.answer_of.Goals as goal

pub returns : goal.returns
returns c = record {
  given = λ u is_of of_code levels b has f i taken pcb at.
      let d = c.args.dbd.now in
      let path : List ℕ = c.args.path.now in
      let m : Links = links_of d.types u in
      let of = is_of at.sound in
      let bytes : b ≡ record { key = keys_of d.types (rows_of f) (path_of d.types (rows_of f) i); area = bytes_of (rows_of f) taken; room = b.room }
      = has at.sound ∙ given_on d u f path i of at.row levels taken b.room at.rows at.ascend in
      let code : c.args.code ≡ (row_at (rows_of f) i).code
      = of_code at.sound ∙ ap (λ (xs : List ℕ). m.code (tip xs)) (take-length path) ∙ tip_code d.types m f (grounds d u f of at.row.holds) path i at.row in
      let level : c.level.result ≡ level_at d.types (rows_of f) i = c.level.ensures.value ∙ level_on d u f path i of at.row in
      let name : c.name_of.result ≡ option_map (λ t. t.name) (type_of d.types (row_at (rows_of f) i).code) = c.name_of.ensures ∙ ap (λ (k : ℕ). option_map (λ t. t.name) (type_of d.types k)) code in
      ap (λ (x : Buffer). record { status = c.args.status; level = c.level.result; segment = c.name_of.result; key = x.key; area = x.area }) bytes
      ∙ ap (λ (l : ℕ). record { status = c.args.status; level = l; segment = c.name_of.result; key = keys_of d.types (rows_of f) (path_of d.types (rows_of f) i); area = bytes_of (rows_of f) taken }) level
      ∙ ap (λ (n : Option (List ℕ)). record { status = c.args.status; level = level_at d.types (rows_of f) i; segment = n; key = keys_of d.types (rows_of f) (path_of d.types (rows_of f) i); area = bytes_of (rows_of f) taken }) name;
}
