-- The name of a file, and what is left to read of it, or of its bytes.
use Rattle.std.specs.Prelude.{ℕ, List, Option, Some, drop}
use Rattle.aig_files.specs.declared.source.Content.{Content}
use Rattle.aig_files.specs.declared.source.Content.TheVariants.{File, Bytes}
use Rattle.aig_files.specs.declared.source.FileSource.{FileSource}
use Rattle.aig_files.specs.declared.source.Whole.{Whole}

-- what is left, where the type of an open file says it of the file
abbrev pub content_remaining : {F : Type 0} → (F → Option (List ℕ)) → Content F → Option (List ℕ)
content_remaining left (File file) = left file
content_remaining left (Bytes bytes) = Some (drop bytes.pos bytes.inner.items)

abbrev pub source_remaining : {F : Type 0} → (F → Option (List ℕ)) → FileSource F → Option (List ℕ)
source_remaining left source = content_remaining left source.content

-- the name by which it was opened
abbrev pub source_name : {F : Type 0} → FileSource F → List ℕ
source_name source = source.name.now

abbrev pub whole_name : Whole → List ℕ
whole_name file = file.name.now

-- the bytes of a file that was read
abbrev pub whole_bytes : Whole → List ℕ
whole_bytes file = file.bytes.items
