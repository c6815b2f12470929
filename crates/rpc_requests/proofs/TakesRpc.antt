-- What is read is spelled so: parameters and calls.
use Rattle.std.proofs.Common.{◌≡◌, ℕ, zero, suc, ◌<◌, ◌≤◌, inl, inr, eqb, ltb, List, [], ◌∷◌, ◌++◌, length, take, drop, Result, Ok, Err, refl, sym, ap, subst, ◌∙◌, append_assoc, arith}
use Rattle.std.specs.Prelude.{◌||◌, IfOk}
use Rattle.std.specs.Int.{w16, to_le_bytes}
use Rattle.std.proofs.lemmas.Bool.{ltb-false, eqb-true, eqb-false}
use Rattle.std.proofs.lemmas.List.{take-append-drop, length-take}
use Rattle.byteorder.specs.Endian.{little_number}
use Rattle.value_types.specs.declared.sql_type.SqlType.{SqlType}
use Rattle.value_types.specs.declared.value.Value.{Value}
use Rattle.value_types.specs.Units.{le_bytes_of}
use Rattle.rpc_requests.specs.declared.call.RpcCall.{RpcCall}
use Rattle.rpc_requests.specs.declared.call.RpcParameter.{RpcParameter}
use Rattle.rpc_requests.specs.declared.call.RpcTarget.{RpcTarget}
use Rattle.rpc_requests.specs.declared.call.RpcTarget.TheVariants.{Named, ExecuteSql}
use Rattle.rpc_requests.specs.declared.types.Form.{Form}
use Rattle.rpc_requests.specs.declared.fault.Refusal.{Refusal}
use Rattle.rpc_requests.specs.declared.fault.RpcFault.{RpcFault}
use Rattle.rpc_requests.specs.Spelling.{by_number, sp_executesql, target_bytes}
use Rattle.rpc_requests.specs.Fit.{name_limit, IsName, AreHeaders}
use Rattle.rpc_requests.specs.Reading.{◌>>=◌, bytes_at, byte_at, short_at, units_at, type_at, value_at, kind_of, has_bit, named_at, counted_at, parameter_at, parameters_at, numbered_of, numbered_at, target_of, target_at, call_at, behind_headers, whole_call, placed, rpc_of, Answers}
use Rattle.rpc_requests.specs.Spelled.{SpellsParameter, SpellsParameters, IsCalled, Spells}
use Rattle.rpc_requests.proofs.Shrinks.{Leaves, parameter_leaves}
use Rattle.rpc_requests.proofs.Takes.{IsBytes, IsBytes-rest, bind_ok, done, ok_is, passed, needed, either, neither, bytes_take, byte_takes, short_takes, units_take}
use Rattle.rpc_requests.proofs.TakesCall.{type_takes, value_takes}
use Rattle.rpc_requests.proofs.Forms.{form_of_type}

-- ---- parameters

-- a parameter was read
abbrev Read : List ℕ → RpcParameter × List ℕ → Type 0
Read bytes x = (text : List ℕ) × (bytes ≡ text ++ x.1) × SpellsParameter x.0 text × IsBytes x.1

abbrev made_of : List ℕ → ℕ → SqlType → Value → List ℕ → Result (RpcParameter × List ℕ) Refusal
made_of name status kind value rest = Ok (record { name = name; output = has_bit status 1; missing = has_bit status 2; kind = kind; value = value }, rest)

abbrev behind_type : List ℕ → ℕ → Form × List ℕ → Result (RpcParameter × List ℕ) Refusal
behind_type name status form = value_at form.0 form.1 >>= λ value. made_of name status (kind_of form.0) value.0 value.1

abbrev behind_status : List ℕ → ℕ × List ℕ → Result (RpcParameter × List ℕ) Refusal
behind_status name status = type_at status.1 >>= behind_type name status.0

named_takes : (start name bytes : List ℕ) (x : RpcParameter × List ℕ) → start ≡ length name ∷ (le_bytes_of name ++ bytes) → IsName name → IsBytes bytes → named_at name bytes ≡ Ok x → Read start x
unfolding named_at
named_takes start name bytes x begins is fits e =
    let a = bind_ok (byte_at bytes) (behind_status name) x e in
    let s = byte_takes bytes a.0 fits a.1 in
    let b = bind_ok (type_at a.0.1) (behind_type name a.0.0) x a.2 in
    let t = type_takes a.0.1 b.0 s.2 b.1 in
    let c = bind_ok (value_at b.0.0 b.0.1) (λ value. made_of name a.0.0 (kind_of b.0.0) value.0 value.1) x b.2 in
    let v = value_takes b.0.0 b.0.1 c.0 (form_of_type b.0.0 t.0 t.2) t.3 c.1 in
    let told : List ℕ = a.0.0 ∷ (t.0 ++ v.0) in
    let text : List ℕ = length name ∷ (le_bytes_of name ++ told) in
    let back : bytes ≡ told ++ c.0.1 = s.0 ∙ ap (λ (l : List ℕ). a.0.0 ∷ l) (t.1 ∙ ap (λ (l : List ℕ). t.0 ++ l) v.1 ∙ sym (append_assoc t.0 v.0 c.0.1)) in
    let parts : start ≡ text ++ c.0.1 = begins ∙ ap (λ (l : List ℕ). length name ∷ (le_bytes_of name ++ l)) back ∙ ap (λ (l : List ℕ). length name ∷ l) (sym (append_assoc (le_bytes_of name) told c.0.1)) in
    let p : RpcParameter = record { name = name; output = has_bit a.0.0 1; missing = has_bit a.0.0 2; kind = kind_of b.0.0; value = c.0.0 } in
    subst (Read start) (ok_is (p, c.0.1) x c.2)
    (text, parts, record { status = a.0.0; form = b.0.0; described = t.0; valued = v.0; parts = refl; name = is; output = refl; missing = refl; typed = t.2; kind = refl; fits = v.3; value = v.2 }, v.4)

parameter_takes : (bytes : List ℕ) (x : RpcParameter × List ℕ) → IsBytes bytes → parameter_at bytes ≡ Ok x → Read bytes x
unfolding parameter_at counted_at
parameter_takes bytes x fits e =
    let a = bind_ok (byte_at bytes) (λ count. counted_at count.0 bytes count.1) x e in
    let c = byte_takes bytes a.0 fits a.1 in
    let g = passed (ltb name_limit a.0.0) _ (units_at a.0.0 a.0.1 >>= λ name. named_at name.0 name.1) x a.2 in
    let small : a.0.0 ≤ name_limit = ltb-false _ _ g.0 in
    let b = bind_ok (units_at a.0.0 a.0.1) (λ name. named_at name.0 name.1) x g.1 in
    let u = units_take a.0.0 a.0.1 b.0 c.2 b.1 in
    let begins : bytes ≡ length b.0.0 ∷ (le_bytes_of b.0.0 ++ b.0.1) = c.0 ∙ ap (λ (l : List ℕ). a.0.0 ∷ l) u.0 ∙ ap (λ (n : ℕ). n ∷ (le_bytes_of b.0.0 ++ b.0.1)) (sym u.1) in
    named_takes bytes b.0.0 b.0.1 x begins (omega (arith, u.1, small), u.2) u.3 b.2

abbrev all_is : List RpcParameter → Result (List RpcParameter) Refusal
all_is ps = Ok ps

parameters_take : (most : ℕ) (bytes : List ℕ) (ps : List RpcParameter) → IsBytes bytes → length bytes ≤ most → parameters_at most bytes ≡ Ok ps → SpellsParameters ps bytes
unfolding parameters_at
parameters_take zero [] ps fits le e = subst (λ (qs : List RpcParameter). SpellsParameters qs []) (ok_is [] ps e) refl
parameters_take (suc most) [] ps fits le e = subst (λ (qs : List RpcParameter). SpellsParameters qs []) (ok_is [] ps e) refl
parameters_take zero (byte ∷ bytes) ps fits le e = absurd (omega arith)
parameters_take (suc most) (byte ∷ bytes) ps fits le e =
    let a = bind_ok (parameter_at (byte ∷ bytes)) (λ first. parameters_at most first.1 >>= λ others. all_is (first.0 ∷ others)) ps e in
    let b = bind_ok (parameters_at most a.0.1) (λ others. all_is (a.0.0 ∷ others)) ps a.2 in
    let t = parameter_takes (byte ∷ bytes) a.0 fits a.1 in
    let shorter : length a.0.1 ≤ length bytes = subst (Leaves (length bytes)) a.1 (parameter_leaves byte bytes) in
    let others = parameters_take most a.0.1 b.0 t.3 (omega arith) b.1 in
    subst (λ (qs : List RpcParameter). SpellsParameters qs (byte ∷ bytes)) (ok_is (a.0.0 ∷ b.0) ps b.2) (t.0, a.0.1, t.2, others, t.1)

-- ---- calls

abbrev Called : List ℕ → RpcTarget × List ℕ → Type 0
Called bytes x = (bytes ≡ target_bytes x.0 ++ x.1) × IsCalled x.0 × IsBytes x.1

target_takes : (bytes : List ℕ) (x : RpcTarget × List ℕ) → IsBytes bytes → target_at bytes ≡ Ok x → Called bytes x
unfolding target_at target_of numbered_at numbered_of
target_takes bytes x fits e =
    let a = bind_ok (short_at bytes) (λ count. target_of count.0 count.1) x e in
    let c = short_takes bytes a.0 fits a.1 in
    let named : List ℕ × List ℕ → Result (RpcTarget × List ℕ) Refusal = λ name. Ok (Named name.0, name.1) in
    elim (either (eqb a.0.0 by_number) (numbered_at a.0.1) (units_at a.0.0 a.0.1 >>= named) x a.2) [
      | inl h ↦
          let n = bind_ok (short_at a.0.1) (λ number. numbered_of number.0 a.0.1 number.1) x h.1 in
          let t = short_takes a.0.1 n.0 c.2 n.1 in
          let g = needed (eqb n.0.0 sp_executesql) _ (done (ExecuteSql, n.0.1)) x n.2 in
          let parts : bytes ≡ target_bytes ExecuteSql ++ n.0.1 =
          c.0 ∙ ap (λ (k : ℕ). to_le_bytes w16 k ++ a.0.1) (eqb-true a.0.0 by_number h.0) ∙ ap (λ (l : List ℕ). to_le_bytes w16 by_number ++ l) (t.0 ∙ ap (λ (k : ℕ). to_le_bytes w16 k ++ n.0.1) (eqb-true n.0.0 sp_executesql g.0)) in
          subst (Called bytes) (ok_is (ExecuteSql, n.0.1) x g.1) (parts, tt, t.2)
      | inr h ↦
          let n = bind_ok (units_at a.0.0 a.0.1) named x h.1 in
          let u = units_take a.0.0 a.0.1 n.0 c.2 n.1 in
          let other = eqb-false a.0.0 by_number h.0 in
          let fewer : length n.0.0 < by_number = grind (arith, u.1, c.1, other) in
          let parts : bytes ≡ target_bytes (Named n.0.0) ++ n.0.1 =
          c.0 ∙ ap (λ (k : ℕ). to_le_bytes w16 k ++ a.0.1) (sym u.1) ∙ ap (λ (l : List ℕ). to_le_bytes w16 (length n.0.0) ++ l) u.0 ∙ sym (append_assoc (to_le_bytes w16 (length n.0.0)) (le_bytes_of n.0.0) n.0.1) in
          subst (Called bytes) (ok_is (Named n.0.0, n.0.1) x n.2) (parts, (fewer, u.2), u.3)
    ]

four_stay : (n : ℕ) (bytes : List ℕ) → 4 ≤ n → 4 ≤ length bytes → little_number 4 (take n bytes) ≡ little_number 4 bytes
four_stay zero bytes a b = absurd (omega arith)
four_stay (suc zero) bytes a b = absurd (omega arith)
four_stay (suc (suc zero)) bytes a b = absurd (omega arith)
four_stay (suc (suc (suc zero))) bytes a b = absurd (omega arith)
four_stay (suc (suc (suc (suc n)))) [] a b = absurd (omega arith)
four_stay (suc (suc (suc (suc n)))) (p ∷ []) a b = absurd (omega arith)
four_stay (suc (suc (suc (suc n)))) (p ∷ q ∷ []) a b = absurd (omega arith)
four_stay (suc (suc (suc (suc n)))) (p ∷ q ∷ r ∷ []) a b = absurd (omega arith)
four_stay (suc (suc (suc (suc n)))) (p ∷ q ∷ r ∷ s ∷ more) a b = refl

headers_take : (payload rest : List ℕ) → IsBytes payload → behind_headers payload ≡ Ok rest → (headers : List ℕ) × (payload ≡ headers ++ rest) × AreHeaders headers × IsBytes rest
unfolding behind_headers
headers_take payload rest fits e =
    let total : ℕ = little_number 4 payload in
    let g = passed ((ltb (length payload) 4 || ltb total 4) || ltb (length payload) total) _ (done (drop total payload)) rest e in
    let a = neither (ltb (length payload) 4 || ltb total 4) (ltb (length payload) total) g.0 in
    let b = neither (ltb (length payload) 4) (ltb total 4) a.0 in
    let long : 4 ≤ length payload = ltb-false _ _ b.0 in
    let some : 4 ≤ total = ltb-false _ _ b.1 in
    let inside : total ≤ length payload = ltb-false _ _ a.1 in
    let len : length (take total payload) ≡ total = omega (arith, length-take total payload) in
    let after : drop total payload ≡ rest = ok_is (drop total payload) rest g.1 in
    let parts : payload ≡ take total payload ++ rest = sym (take-append-drop total payload) ∙ ap (λ (l : List ℕ). take total payload ++ l) after in
    (take total payload, parts, (omega (arith, len), four_stay total payload some long ∙ sym len), IsBytes-rest (take total payload) rest (subst IsBytes parts fits))

abbrev call_of : RpcTarget → List RpcParameter → Result RpcCall Refusal
call_of target parameters = Ok (record { target = target; parameters = parameters })

abbrev behind_target : RpcTarget × List ℕ → Result RpcCall Refusal
behind_target target = bytes_at 2 target.1 >>= λ flags. parameters_at (length flags.1) flags.1 >>= λ parameters. call_of target.0 parameters

call_takes : (payload : List ℕ) (call : RpcCall) → IsBytes payload → whole_call payload ≡ Ok call → Spells call payload
unfolding whole_call call_at
call_takes payload call fits e =
    let h = bind_ok (behind_headers payload) call_at call e in
    let k = headers_take payload h.0 fits h.1 in
    let a = bind_ok (target_at h.0) behind_target call h.2 in
    let t = target_takes h.0 a.0 k.3 a.1 in
    let b = bind_ok (bytes_at 2 a.0.1) (λ flags. parameters_at (length flags.1) flags.1 >>= λ parameters. call_of a.0.0 parameters) call a.2 in
    let f = bytes_take 2 a.0.1 b.0 t.2 b.1 in
    let c = bind_ok (parameters_at (length b.0.1) b.0.1) (call_of a.0.0) call b.2 in
    let ps = parameters_take (length b.0.1) b.0.1 c.0 f.3 (omega arith) c.1 in
    let parts : payload ≡ k.0 ++ (target_bytes a.0.0 ++ (b.0.0 ++ b.0.1)) = k.1 ∙ ap (λ (l : List ℕ). k.0 ++ l) (t.0 ∙ ap (λ (l : List ℕ). target_bytes a.0.0 ++ l) f.0) in
    let made : RpcCall = record { target = a.0.0; parameters = c.0 } in
    subst (λ (y : RpcCall). Spells y payload) (ok_is made call c.2)
    (record { headers = k.0; flags = b.0.0; rest = b.0.1; parts = parts; are_headers = k.2; called = t.1; two = f.1; parameters = ps })

abbrev answer : RpcCall → Result RpcCall RpcFault
answer call = Ok call

pub given_is : (a b : RpcCall) → answer a ≡ answer b → a ≡ b
given_is a b same = cc

placed_is : (size : ℕ) (r : Result RpcCall Refusal) (call : RpcCall) → placed size r ≡ Ok call → r ≡ Ok call
placed_is size (Ok given) call e = ap done (given_is given call e)
placed_is size (Err refusal) call e = absurd cc

-- what a payload says is what it spells
pub rpc_takes : (payload : List ℕ) (call : RpcCall) → IsBytes payload → rpc_of payload ≡ Ok call → Spells call payload
unfolding rpc_of
rpc_takes payload call fits e = call_takes payload call fits (placed_is (length payload) (whole_call payload) call e)

pub found : (payload : List ℕ) (r : Result RpcCall RpcFault) → IsBytes payload → Answers r (rpc_of payload) → IfOk r (λ call. Spells call payload)
found payload (Ok call) fits given = rpc_takes payload call fits given
found payload (Err fault) fits given = tt
