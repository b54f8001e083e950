-- Small expressions and stores with what they give, by computation.
use Rattle.std.proofs.Common.{◌≡◌, [], Option, Some, None, refl}
use Rattle.std.specs.Prelude.{option_and_then, codes}
use Rattle.floyd_int.specs.declared.kinds.IntKind.TheVariants.{U8, U32, I64}
use Rattle.floyd_int.specs.declared.kinds.IntOp.TheVariants.{Add, Sub, Div, Rem, Shl, Eq, Ne, Lt}
use Rattle.floyd_int.specs.declared.kinds.Value.{Value}
use Rattle.floyd_int.specs.declared.kinds.Value.TheVariants.{Vundef, Vint, Vlong, Vptr}
use Rattle.floyd_int.specs.Kind.{repr_of, value_of}
use Rattle.floyd_int.specs.Operation.{operation_of, negation_of}
use Rattle.floyd_memval.specs.declared.bytes.Chunk.TheVariants.{I32 as IntChunk, Ptr}
use Rattle.floyd_memval.specs.Decoding.{decoding}
use Rattle.floyd_memval.specs.Encoding.{encoding}
use Rattle.floyd_clight_memory.specs.Memory.{Mem, free, store}
use Rattle.floyd_ctypes.specs.declared.ctype.CType.{Void, Int, Struct, Function', end_of-CType, more_of-CType}
use Rattle.floyd_clight.specs.declared.syntax.Binding.TheVariants.{Block as InBlock, File}
use Rattle.floyd_clight.specs.declared.syntax.UnaryOp.TheVariants.{Neg, Complement, Not}
use Rattle.floyd_clight.specs.declared.syntax.Expr.{Const, Temp, Var, SizeOf}
use Rattle.floyd_clight_machine.specs.Looking.{load}
use Rattle.floyd_clight_machine.specs.Machine.{look}
use Rattle.floyd_clight_machine.proofs.Samples.{int, char, pointer, int_of, uint_of, binary, unary, cast, deref, address_of, field, program, memory, gives, p, q, c, g, x, null}

-- Integers.

example_sum : gives (binary Add (int_of 2) (int_of 3) int) ≡ Some (Vint 5)
unfolding operation_of value_of repr_of
example_sum = refl

-- a signed sum out of range is undefined, an unsigned one is taken modulo 2 ^ 32
example_overflow : gives (binary Add (int_of 2147483647) (int_of 1) int) ≡ None
unfolding operation_of value_of repr_of
example_overflow = refl

example_wraps : gives (binary Add (uint_of 4294967295) (uint_of 1) (Int U32)) ≡ Some (Vint 0)
unfolding operation_of value_of repr_of
example_wraps = refl

example_least_negated : gives (unary Neg (int_of 2147483648) int) ≡ None
unfolding negation_of value_of repr_of
example_least_negated = refl

-- 7 / -2 is -3
example_quotient : gives (binary Div (int_of 7) (int_of 4294967294) int) ≡ Some (Vint 4294967293)
unfolding operation_of value_of repr_of
example_quotient = refl

example_division_by_zero : gives (binary Rem (int_of 7) (int_of 0) int) ≡ None
unfolding operation_of value_of repr_of
example_division_by_zero = refl

example_shift_too_far : gives (binary Shl (int_of 1) (int_of 32) int) ≡ None
unfolding operation_of value_of repr_of
example_shift_too_far = refl

-- a shift's amount is read by its own kind
example_long_shift : gives (binary Shl (Const (Vlong 1) (Int I64)) (int_of 33) (Int I64)) ≡ Some (Vlong 8589934592)
unfolding operation_of value_of repr_of
example_long_shift = refl

-- operands of two kinds of arithmetic have no value
example_mixed : gives (binary Add (int_of 1) (uint_of 1) int) ≡ None
unfolding operation_of value_of repr_of
example_mixed = refl

-- an operand of 8 bits is read by all its 32 bits, on either side
example_char_first : gives (binary Add c (int_of 3) int) ≡ Some (Vint 2)
unfolding operation_of value_of repr_of
example_char_first = refl

example_char_second : gives (binary Add (int_of 3) c int) ≡ Some (Vint 2)
unfolding operation_of value_of repr_of
example_char_second = refl

-- -1 < 1, and 4294967295u < 1u is false
example_signed_order : gives (binary Lt (int_of 4294967295) (int_of 1) int) ≡ Some (Vint 1)
unfolding operation_of value_of repr_of
example_signed_order = refl

example_unsigned_order : gives (binary Lt (uint_of 4294967295) (uint_of 1) int) ≡ Some (Vint 0)
unfolding operation_of value_of repr_of
example_unsigned_order = refl

example_not : gives (unary Not (int_of 5) int) ≡ Some (Vint 0)
unfolding operation_of value_of repr_of
example_not = refl

example_complement : gives (unary Complement (int_of 0) int) ≡ Some (Vint 4294967295)
unfolding operation_of value_of repr_of
example_complement = refl

-- (unsigned char)300 is 44, and (char)200 is -56
example_to_unsigned_char : gives (cast (int_of 300) (Int U8)) ≡ Some (Vint 44)
unfolding value_of repr_of
example_to_unsigned_char = refl

example_to_char : gives (cast (int_of 200) char) ≡ Some (Vint 4294967240)
unfolding value_of repr_of
example_to_char = refl

-- (long)-1
example_to_long : gives (cast (int_of 4294967295) (Int I64)) ≡ Some (Vlong 18446744073709551615)
unfolding value_of repr_of
example_to_long = refl

example_undefined_operand : gives (binary Add (Temp (codes "u") int) (int_of 1) int) ≡ None
example_undefined_operand = refl

example_size : gives (SizeOf (Struct (codes "s")) (Int U32)) ≡ Some (Vlong 8)
example_size = refl

-- Places.

example_global : gives g ≡ Some (Vint 5)
unfolding decoding
example_global = refl

example_read_only : gives (Var File (codes "k") int) ≡ Some (Vint 200)
unfolding decoding
example_read_only = refl

-- a name of a local block is none of the file, and the other way round
example_no_such_file_name : gives (Var File (codes "x") int) ≡ None
example_no_such_file_name = refl

example_no_such_block : gives (Var InBlock (codes "g") int) ≡ None
example_no_such_block = refl

-- an array and a function give their address
example_array : gives x ≡ Some (Vptr 3 0)
example_array = refl

example_function : gives (Var File (codes "f") (Function' [] end_of-CType tt (more_of-CType Void end_of-CType))) ≡ Some (Vptr 2 0)
example_function = refl

example_address : gives (address_of g (pointer int)) ≡ Some (Vptr 0 0)
example_address = refl

example_element : gives (deref x int) ≡ Some (Vint 7)
unfolding decoding
example_element = refl

-- undefined bytes give Vundef
example_undefined : gives (deref (binary Add p (int_of 1) (pointer int)) int) ≡ Some Vundef
unfolding value_of repr_of decoding
example_undefined = refl

example_misaligned : gives (deref (cast (binary Add (cast p (pointer char)) (int_of 2) (pointer char)) (pointer int)) int) ≡ None
unfolding value_of repr_of decoding
example_misaligned = refl

example_past_the_end : gives (deref q int) ≡ None
unfolding decoding
example_past_the_end = refl

-- a char is loaded with its sign
example_char_loaded : gives (deref (cast (address_of (Var File (codes "k") int) (pointer int)) (pointer char)) char) ≡ Some (Vint 4294967240)
unfolding value_of repr_of decoding
example_char_loaded = refl

-- ((struct s *)p)->b lies 4 bytes behind the start
example_field : gives (address_of (field (deref (cast p (pointer (Struct (codes "s")))) (Struct (codes "s"))) (codes "b") int) (pointer int)) ≡ Some (Vptr 3 4)
example_field = refl

-- Pointers.

example_zero_to_pointer : gives null ≡ Some (Vlong 0)
example_zero_to_pointer = refl

-- what is no constant 0 has no cast to a pointer
example_no_cast : gives (cast (unary Neg (int_of 0) int) (pointer int)) ≡ None
unfolding negation_of value_of repr_of
example_no_cast = refl

example_pointer_plus : gives (binary Add p (int_of 2) (pointer int)) ≡ Some (Vptr 3 8)
unfolding value_of repr_of
example_pointer_plus = refl

example_plus_pointer : gives (binary Add (int_of 2) p (pointer int)) ≡ Some (Vptr 3 8)
unfolding value_of repr_of
example_plus_pointer = refl

-- modulo 2 ^ 64
example_pointer_minus : gives (binary Sub p (int_of 1) (pointer int)) ≡ Some (Vptr 3 18446744073709551612)
unfolding value_of repr_of
example_pointer_minus = refl

example_null_plus : gives (binary Add null (int_of 1) (pointer int)) ≡ None
unfolding value_of repr_of
example_null_plus = refl

example_nulls : gives (binary Eq null null int) ≡ Some (Vint 1)
example_nulls = refl

-- one past the end is weakly valid, and further on it is not
example_end_is_not_null : gives (binary Ne q null int) ≡ Some (Vint 1)
example_end_is_not_null = refl

example_beyond_and_null : gives (binary Ne (binary Add q (int_of 1) (pointer int)) null int) ≡ None
unfolding value_of repr_of
example_beyond_and_null = refl

example_not_of_pointer : gives (unary Not p int) ≡ Some (Vint 0)
example_not_of_pointer = refl

example_same_block : gives (binary Lt p q int) ≡ Some (Vint 1)
example_same_block = refl

-- in two blocks both must be valid, and there is no order
example_two_blocks : gives (binary Eq p (address_of g (pointer int)) int) ≡ Some (Vint 0)
example_two_blocks = refl

example_end_and_other_block : gives (binary Eq q (address_of g (pointer int)) int) ≡ None
example_end_and_other_block = refl

example_order_of_blocks : gives (binary Lt p (address_of g (pointer int)) int) ≡ None
example_order_of_blocks = refl

example_order_with_null : gives (binary Lt null p int) ≡ None
example_order_with_null = refl

-- Stores.

abbrev loaded_after : Option Mem → Option Value
loaded_after m = option_and_then (λ n. load (look program [] n) IntChunk (record { block = 3; offset = 4 })) m

example_store : loaded_after (store IntChunk memory 3 4 (Vint 4294967295)) ≡ Some (Vint 4294967295)
unfolding decoding encoding
example_store = refl

example_store_misaligned : store IntChunk memory 3 2 (Vint 1) ≡ None
example_store_misaligned = refl

example_store_read_only : store IntChunk memory 1 0 (Vint 1) ≡ None
unfolding encoding
example_store_read_only = refl

example_store_past_the_end : store IntChunk memory 3 8 (Vint 1) ≡ None
unfolding encoding
example_store_past_the_end = refl

-- a pointer comes back from its fragments, and a part of them is no number
example_pointer_comes_back : option_and_then (λ n. load (look program [] n) Ptr (record { block = 3; offset = 0 })) (store Ptr memory 3 0 (Vptr 0 4)) ≡ Some (Vptr 0 4)
unfolding decoding encoding
example_pointer_comes_back = refl

example_part_of_pointer : loaded_after (store Ptr memory 3 0 (Vptr 0 4)) ≡ Some Vundef
unfolding decoding encoding
example_part_of_pointer = refl

-- a freed block has no permission, and only what is Freeable may be freed
example_freed : option_and_then (λ n. load (look program [] n) IntChunk (record { block = 3; offset = 0 })) (free memory 3) ≡ None
unfolding decoding
example_freed = refl

example_no_free : free memory 0 ≡ None
example_no_free = refl
