-- What letters of PROCOPT give, by the access that is asked.
use Rattle.std.specs.Prelude.{ℕ, List, Bool}
use Rattle.hd_dbd.specs.Letters.{gives_get, gives_insert, gives_replace, gives_delete, gives_path}
use Rattle.hd_dbd.specs.declared.access.Access.{Access}
use Rattle.hd_dbd.specs.declared.access.Access.TheVariants.{Get, Insert, Replace, Delete, Path}

-- letters give an access
abbrev pub gives : Access → (List ℕ → Bool)
gives Get = gives_get
gives Insert = gives_insert
gives Replace = gives_replace
gives Delete = gives_delete
gives Path = gives_path
