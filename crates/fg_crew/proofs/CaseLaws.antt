-- What is said of an answer, read off in its case.
use Rattle.std.proofs.Common.{◌≡◌, Err, Ok, Option, Result, Some, subst, sym}
use Rattle.std.specs.Prelude.{IfErr, IfSome, OnOk}
use Rattle.fg_task.specs.declared.block_result.WorkFault.{WorkFault}
use Rattle.fg_crew.specs.Slots.{worse_of}

pub on_ok : {X E : Type 0} {P : Type 0} (r : Result X E) (x : X) → r ≡ Ok x → OnOk r P → P
on_ok {P = P} r x is held = subst (λ (one : Result _ _). OnOk one P) is held

pub if_some : {X : Type 0} (P : X → Type 0) (r : Option X) (x : X) → r ≡ Some x → IfSome r P → P x
if_some P r x is held = subst (λ (one : Option _). IfSome one P) is held

-- of the worse of two ends
module _ {F : Type 0} where
  on_worse : {P Q R : Type 0} (one two : Result (Unit {0}) (WorkFault F)) → (P → Q → R) → OnOk one P → OnOk two Q → OnOk (worse_of one two) R
  on_worse (Ok x) (Ok y) both first second = both first second
  on_worse (Ok x) (Err e) both first second = tt
  on_worse (Err (WorkFault.Fault fault)) two both first second = tt
  on_worse (Err WorkFault.Memory) (Ok y) both first second = tt
  on_worse (Err WorkFault.Memory) (Err WorkFault.Memory) both first second = tt
  on_worse (Err WorkFault.Memory) (Err (WorkFault.Fault fault)) both first second = tt

  err_of_worse : (P : WorkFault F → Type 0) (one two : Result (Unit {0}) (WorkFault F)) → IfErr one P → IfErr two P → IfErr (worse_of one two) P
  err_of_worse P (Ok x) two first second = second
  err_of_worse P (Err (WorkFault.Fault fault)) two first second = first
  err_of_worse P (Err WorkFault.Memory) (Ok y) first second = first
  err_of_worse P (Err WorkFault.Memory) (Err WorkFault.Memory) first second = first
  err_of_worse P (Err WorkFault.Memory) (Err (WorkFault.Fault fault)) first second = second

  module _ (one two all : Result (Unit {0}) (WorkFault F)) (is : all ≡ worse_of one two) where
    pub on_both : {P Q R : Type 0} → (P → Q → R) → OnOk one P → OnOk two Q → OnOk all R
    on_both {R = R} both first second = subst (λ (r : Result (Unit {0}) (WorkFault F)). OnOk r R) (sym is) (on_worse one two both first second)

    pub err_of_both : (P : WorkFault F → Type 0) → IfErr one P → IfErr two P → IfErr all P
    err_of_both P first second = subst (λ (r : Result (Unit {0}) (WorkFault F)). IfErr r P) (sym is) (err_of_worse P one two first second)
