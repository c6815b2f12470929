pub mod Laws  -- RowTyped, ImageTyped, WrittenRead, OneDefinition: the laws
