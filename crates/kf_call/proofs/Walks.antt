-- A step for a walk that makes a struct without data.
use Rattle.std.proofs.Common.{List, [], ◌∷◌, refl}
use seplogic.Ra.Ura.{Ura}
use mir.Val.{Val, vstruct, vnil}
use types.Logic.{Logic}
use types.Kit.{Goal, Step, step, Item, ‵, ◌$◌, fjoin, fpack, feq_i}
use denote.RattleType.{RattleType, Valss}
use denote.Steps.{nothing}
use denote.Struct.Struct.{Struct, within}

-- the value of such a struct
abbrev pub no_data : Val
no_data = vstruct vnil

abbrev pub Dataless : RattleType
Dataless = Struct (record { name = []; args = []; types = []; fields = [] })

-- it owns nothing
pub owns_nothing : {M : Type 1} {𝓤 : Ura M} {𝓛 : Logic 𝓤} {K : Type 0} {Γ : List (Item 𝓤)} {G : Goal 𝓤 𝓛.H} → K
    → Step K 𝓛 (‵ (Dataless.own_val tt (vstruct vnil ∷ [])) ∷ Γ) G Γ G
owns_nothing k = step (λ rest.
    nothing k $ feq_i k (List Val) (vstruct vnil ∷ []) (vstruct vnil ∷ []) refl $ fjoin k $
    fpack k (Valss []) (within (record { name = []; args = []; types = []; fields = [] }) tt (vstruct vnil ∷ [])) tt $ rest)
