-- Lists of any elements, by place.
use Rattle.std.specs.Prelude.{ℕ, zero, suc, List, [], ◌∷◌}

-- place i of a list becomes x; where there is none yet, places that hold d are made up to it
abbrev pub put_with : {A : Type 0} → A → List A → ℕ → A → List A
put_with d [] zero x = x ∷ []
put_with d [] (suc i) x = d ∷ put_with d [] i x
put_with d (y ∷ l) zero x = x ∷ l
put_with d (y ∷ l) (suc i) x = y ∷ put_with d l i x
