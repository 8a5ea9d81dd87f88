-- Writing to a register.
use Rattle.std.proofs.Common.{◌≡◌, ℕ, ℤ, List, slice_index_or, slice_set, ap, ◌∙◌}
use Rattle.std.proofs.Math.Seq.{map-set_same}
use Rattle.std.proofs.lemmas.List.{map-set}
use Rattle.java_values.specs.Kinds.{TypedNumber}
use Rattle.signal_store.specs.definitions.Registers.{kinds_of, numbers_of}

pub set_number : (rs : List TypedNumber) (i : ℕ) (v : TypedNumber) (n : ℤ) → v.number ≡ n → numbers_of (slice_set rs i v) ≡ slice_set (numbers_of rs) i n
set_number rs i v n h = map-set (λ (r : TypedNumber). r.number) rs i v ∙ ap (λ m. slice_set (numbers_of rs) i m) h

pub set_kind : (rs : List TypedNumber) (i : ℕ) (v d : TypedNumber) → v.kind ≡ d.kind → d ≡ slice_index_or rs i d → kinds_of (slice_set rs i v) ≡ kinds_of rs
set_kind rs i v d h e = map-set_same (λ (r : TypedNumber). r.kind) rs i v d (h ∙ ap (λ (r : TypedNumber). r.kind) e)

pub ruleset setting = (set_number, set_kind)
