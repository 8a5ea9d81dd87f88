-- Files in memory by name.
use Rattle.std.proofs.Common.{◌≡◌, ℕ, zero, suc, ◌<◌, Bool, true, false, cond, ◌||◌, List, [], ◌∷◌, length, get_or, refl, sym, ap, ◌∙◌, subst, arith}
use Rattle.std.proofs.Math.ListN.{set}
use Rattle.std.proofs.lemmas.List.Quantifiers.{position-Some}
use Rattle.std.specs.Str.{bytes_eq}
use Rattle.std.specs.Prelude.{Option, Some, None, IfSome, is_none, string_bytes, position}
use Rattle.sj_io.specs.declared.memory.MemFile.{MemFile}
use Rattle.sj_io.specs.definitions.Memory.{file_names, bytes_of}
use Rattle.sj_io.proofs.CountLemmas.{IsAbsent, nowhere}

bytes_set : (files : List MemFile) (i : ℕ) (file d : MemFile) (name : List ℕ) → string_bytes file.name ≡ string_bytes (get_or files i d).name → file.bytes.items ≡ (get_or files i d).bytes.items → bytes_of (set files i file) name ≡ bytes_of files name
bytes_set [] i file d name n b = refl
bytes_set (f ∷ fs) zero file d name n b = ap (λ k. cond (bytes_eq k name) (Some file.bytes.items) (bytes_of fs name)) n ∙ ap (λ v. cond (bytes_eq (string_bytes f.name) name) (Some v) (bytes_of fs name)) b
bytes_set (f ∷ fs) (suc i) file d name n b = ap (λ v. cond (bytes_eq (string_bytes f.name) name) (Some f.bytes.items) v) (bytes_set fs i file d name n b)

-- the file d at a place, written with another count
pub bytes_stay : (files : List MemFile) (i : ℕ) (file d : MemFile) (name : List ℕ) → d ≡ get_or files i d → string_bytes file.name ≡ string_bytes d.name → file.bytes.items ≡ d.bytes.items → bytes_of (set files i file) name ≡ bytes_of files name
bytes_stay files i file d name is n b = bytes_set files i file d name (n ∙ ap (λ f. string_bytes f.name) is) (b ∙ ap (λ f. f.bytes.items) is)

bytes_at : (files : List MemFile) (i : ℕ) (d : MemFile) (name : List ℕ) → i < length files → bytes_eq (string_bytes (get_or files i d).name) name ≡ true → ((k : ℕ) → k < i → bytes_eq (string_bytes (get_or files k d).name) name ≡ false) → bytes_of files name ≡ Some (get_or files i d).bytes.items
bytes_at [] i d name lt hit miss = absurd (omega arith)
bytes_at (f ∷ fs) zero d name lt hit miss = ap (λ b. cond b (Some f.bytes.items) (bytes_of fs name)) hit
bytes_at (f ∷ fs) (suc i) d name lt hit miss = ap (λ b. cond b (Some f.bytes.items) (bytes_of fs name)) (miss 0 (omega arith)) ∙ bytes_at fs i d name (omega arith) hit (λ k h. miss (suc k) (omega arith))

-- the bytes of the name that a search finds, and that there are none where it finds nothing
pub bytes_found : (seen files : List MemFile) (name bytes : List ℕ) (i : ℕ) (file : MemFile) → seen ≡ files → Some i ≡ position (λ f. bytes_eq (string_bytes f.name) name) seen → file ≡ get_or files i file → bytes ≡ file.bytes.items → bytes_of files name ≡ Some bytes
bytes_found seen files name bytes i file e h is b =
    let p = position-Some (λ f. bytes_eq (string_bytes f.name) name) files i file (ap (position (λ f. bytes_eq (string_bytes f.name) name)) (sym e) ∙ sym h) in
    bytes_at files i file name p.0 p.1 p.2 ∙ ap Some (ap (λ f. f.bytes.items) (sym is) ∙ sym b)

none_of : (files : List MemFile) (name : List ℕ) → IsAbsent (file_names files) name → bytes_of files name ≡ None
none_of [] name h = refl
none_of (f ∷ fs) name h = ap (λ b. cond b (Some f.bytes.items) (bytes_of fs name)) (h.all 0 (omega arith)) ∙ none_of fs name (record { all = λ k lt. h.all (suc k) (omega arith) })

pub bytes_nowhere : (seen files : List MemFile) (name : List ℕ) → seen ≡ files → None ≡ position (λ f. bytes_eq (string_bytes f.name) name) seen → bytes_of files name ≡ None
bytes_nowhere seen files name e h = none_of files name (nowhere (λ f. string_bytes f.name) files name (ap (position (λ f. bytes_eq (string_bytes f.name) name)) (sym e) ∙ sym h))

pub fails_where_absent : (listed : Bool) (told : Option (List ℕ)) → told ≡ None → true ≡ listed || is_none told
fails_where_absent true told h = refl
fails_where_absent false told h = cc

pub reads_where_told : (listed : Bool) (told : Option (List ℕ)) (bytes : List ℕ) → told ≡ Some bytes → false ≡ listed → false ≡ listed || is_none told
reads_where_told true told bytes h e = cc
reads_where_told false told bytes h e = cc

pub of_told : (told : Option (List ℕ)) (bytes : List ℕ) (P : List ℕ → Type 0) → told ≡ Some bytes → P bytes → IfSome told P
of_told told bytes P h p = subst (λ o. IfSome o P) (sym h) p
