-- What a show of the worked evening opens. Assumes nothing.
use Rattle.std.specs.Prelude.{List, [], ◌∷◌}
use Rattle.model.specs.Contents.{Contents, Name}
use Rattle.model.specs.Calls.{opened}

-- LAMP and SKY, in the bytes of their names
abbrev names : List Name
names = (76 ∷ 65 ∷ 77 ∷ 80 ∷ 32 ∷ 32 ∷ 32 ∷ 32 ∷ []) ∷ (83 ∷ 75 ∷ 89 ∷ 32 ∷ 32 ∷ 32 ∷ 32 ∷ 32 ∷ []) ∷ []

-- the lamp on and the sky at day, and four slots, all vacant
abbrev pub opening : Contents
opening = opened (2 ∷ 3 ∷ []) names (1 ∷ 0 ∷ []) 4
