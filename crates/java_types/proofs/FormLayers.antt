-- Two maps over the parts of a form are one.
use Rattle.std.proofs.Common.{◌≡◌, List, [], ◌∷◌, map, Some, None, ap, refl}
use Rattle.sj_ast.specs.declared.statement.Form as form
use Rattle.sj_ast.specs.declared.statement.Form.TheOpen.{Form-F}

pub map_twice : {X Y Z : Type 0} (f : X → Y) (g : Y → Z) (xs : List X) → map g (map f xs) ≡ map (λ x. g (f x)) xs
map_twice f g [] = refl
map_twice f g (x ∷ xs) = ap (λ l. g (f x) ∷ l) (map_twice f g xs)

pub layers_twice : {N E F B S : Type 0} {F2 B2 S2 : Type 0} {F3 B3 S3 : Type 0} (p : F → F2) (q : B → B2) (r : S → S2) (f : F2 → F3) (g : B2 → B3) (h : S2 → S3) (y : Form-F N E F B S)
    → form.map-Form N E F2 B2 S2 F3 B3 S3 f g h (form.map-Form N E F B S F2 B2 S2 p q r y) ≡ form.map-Form N E F B S F3 B3 S3 (λ x. f (p x)) (λ x. g (q x)) (λ x. h (r x)) y
layers_twice p q r f g h (Form-F.Par first others) = ap (Form-F.Par (g (q first))) (map_twice q g others)
layers_twice p q r f g h Form-F.Empty = refl
layers_twice p q r f g h Form-F.Pause = refl
layers_twice p q r f g h Form-F.Halt = refl
layers_twice p q r f g h (Form-F.Emit at n None) = refl
layers_twice p q r f g h (Form-F.Emit at n (Some e)) = refl
layers_twice p q r f g h (Form-F.Sustain at n None) = refl
layers_twice p q r f g h (Form-F.Sustain at n (Some e)) = refl
layers_twice p q r f g h (Form-F.Declare signal) = refl
layers_twice p q r f g h (Form-F.Variable k at n value) = refl
layers_twice p q r f g h (Form-F.Assign at n value) = refl
layers_twice p q r f g h (Form-F.Update at n sign_at op value) = refl
layers_twice p q r f g h (Form-F.If cond first None) = refl
layers_twice p q r f g h (Form-F.If cond first (Some other)) = refl
layers_twice p q r f g h (Form-F.Present test first None) = refl
layers_twice p q r f g h (Form-F.Present test first (Some other)) = refl
layers_twice p q r f g h (Form-F.While body) = refl
layers_twice p q r f g h (Form-F.Abort weak immediate test body) = refl
layers_twice p q r f g h (Form-F.Suspend immediate test body) = refl
layers_twice p q r f g h (Form-F.Trap at n body) = refl
layers_twice p q r f g h (Form-F.Exit at n) = refl
layers_twice p q r f g h (Form-F.Send at n value) = refl
layers_twice p q r f g h (Form-F.Receive at n) = refl
layers_twice p q r f g h (Form-F.Await immediate test) = refl
layers_twice p q r f g h (Form-F.Every immediate test body) = refl
layers_twice p q r f g h (Form-F.Loop body test) = refl
